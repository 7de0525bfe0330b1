-- Each promise leaves one answer and one part of the file: two results that meet it have equal answers, equal pointers, and slices at the same offset with the same
-- bytes.
use Rattle.std.specs.Prelude.{Result}
use Rattle.layout.specs.declared.table.Table.{Table}
use Rattle.layout.specs.declared.refusal.Refusal.{Refusal}
use Rattle.layout.specs.declared.pointer.Pointer.{Pointer}
use Rattle.read_listing.specs.declared.listing.WrittenKey.{WrittenKey}
use Rattle.read_listing.specs.declared.children.Child.{Child}
use Prim.Native.Nat.{ℕ}
use mathlib.Core.Path.{◌≡◌, sym, ap, subst, ◌∙◌}
use mathlib.Core.List.{List}
use denote.Ref.{Bor}
use Rattle.read_find.specs.declared.manner.Manner.{Manner}
use Rattle.read_find.specs.Find.{manner_of}
use Rattle.check_rules.specs.declared.checked.Checked.{Checked}
use Rattle.check_rules.specs.Rules.{check_table}
use Rattle.read.specs.declared.layered.Layered.{Layered}
use Rattle.read.specs.Layered.{marked}
use Rattle.read_listing.specs.declared.listing.Valued.{Valued}
use Rattle.view.specs.declared.table.TableView.{TableView}
use Rattle.view.specs.declared.table.OpenedView.{OpenedView}
use Rattle.view.specs.declared.table.ValueView.{ValueView}
use Rattle.view.specs.declared.table.LayeredView.{LayeredView}
use Rattle.view.specs.declared.table.NestedView.{NestedView}
use Rattle.view.specs.declared.table.ListedView.{ListedView}
use Rattle.view.specs.declared.table.ChildView.{ChildView}
use Rattle.view_part.specs.Part.{Viewed, ValueIn, of_source, LayeredIn, ListedIn, ChildIn, OpenedIn, NestedIn, opened_pointer, pointer_start, pointer_end}
use Rattle.view.specs.Views.{OpenedOf, ValueOf, LayeredOf, NestedOf, ListedOf, ChildOf, KeyOf}

-- two slices are the same bytes of the same memory
pub record Same (r s : Bor (List ℕ)) : Type 0 where
  pub block : r.ref_ptr.0 ≡ s.ref_ptr.0
  pub place : r.ref_ptr.1 ≡ s.ref_ptr.1
  pub bytes : r.now ≡ s.now

-- two views of a table are the same bytes, the same pointer and the same manner
pub record SameTable (r s : TableView) : Type 0 where
  pub file : Same r.file s.file
  pub start : r.start ≡ s.start
  pub end : r.end ≡ s.end
  pub manner : r.manner ≡ s.manner

pub viewed_unique : (file r s : Bor (List ℕ)) (at : ℕ) (bytes : List ℕ) → Viewed file r at bytes → Viewed file s at bytes → Same r s
viewed_unique file r s at bytes p q = record {
  block = p.block ∙ sym q.block;
  place = p.place ∙ sym q.place;
  bytes = p.holds ∙ sym q.holds;
}

pub open_view_unique : (file : Bor (List ℕ)) (start end : ℕ) (manner : Manner) (r s : OpenedView) → OpenedOf file start end manner r → OpenedOf file start end manner s
    → (r.answer ≡ s.answer) × SameTable r.table s.table
open_view_unique file start end manner r s p q =
    let same : r.answer ≡ s.answer = p.answered ∙ sym q.answered in (
      same,
      record {
        file = viewed_unique file _ _ _ _ (subst (λ (o : Result Table Refusal). OpenedIn file o r.table.file) same p.viewed) q.viewed;
        start = p.starts ∙ ap (λ o. opened_pointer o start) same ∙ sym q.starts;
        end = p.ends ∙ ap (λ o. opened_pointer o end) same ∙ sym q.ends;
        manner = p.manners ∙ sym q.manners;
      },
    )

module _ (t : TableView) where
  pub value_unique : (key : List ℕ) (r s : ValueView) → ValueOf t key r → ValueOf t key s → (r.answer ≡ s.answer) × Same r.bytes s.bytes
  value_unique key r s p q =
      let same : r.answer ≡ s.answer = p.answered ∙ sym q.answered in
      (same, viewed_unique t.file _ _ _ _ (subst (λ (l : Result Pointer Refusal). ValueIn t.file l r.bytes) same p.viewed) q.viewed)

  pub layered_unique : (district : TableView) (key : List ℕ) (r s : LayeredView) → LayeredOf t district key r → LayeredOf t district key s
      → (r.answer ≡ s.answer) × (r.from ≡ s.from) × Same r.bytes s.bytes
  layered_unique district key r s p q =
      let same : marked r.answer r.from ≡ marked s.answer s.from = p.answered ∙ sym q.answered in (
        ap (λ (l : Layered). l.looked) same,
        ap (λ (l : Layered). l.from) same,
        viewed_unique (of_source s.from t.file district.file) _ _ _ _ (subst (λ (l : Layered). LayeredIn t.file district.file l r.bytes) same p.viewed) q.viewed,
      )

  pub nested_unique : (key : List ℕ) (r s : NestedView) → NestedOf t key r → NestedOf t key s → (r.answer ≡ s.answer) × SameTable r.table s.table
  nested_unique key r s p q =
      let same : r.answer ≡ s.answer = p.answered ∙ sym q.answered in (
        same,
        record {
          file = viewed_unique t.file _ _ _ _ (subst (λ (l : Result Pointer Refusal). NestedIn t.file l r.table.file) same p.viewed) q.viewed;
          start = p.starts ∙ ap pointer_start same ∙ sym q.starts;
          end = p.ends ∙ ap pointer_end same ∙ sym q.ends;
          manner = p.manners ∙ sym q.manners;
        },
      )

  pub next_value_unique : (at : ℕ) (r s : ListedView) → ListedOf t at r → ListedOf t at s → (r.answer ≡ s.answer) × Same r.bytes s.bytes
  next_value_unique at r s p q =
      let same : r.answer ≡ s.answer = p.answered ∙ sym q.answered in
      (same, viewed_unique t.file _ _ _ _ (subst (λ (v : Valued). ListedIn t.file v r.bytes) same p.viewed) q.viewed)

  pub next_child_unique : (key : List ℕ) (at : ℕ) (r s : ChildView) → ChildOf t key at r → ChildOf t key at s → (r.answer ≡ s.answer) × Same r.fragment s.fragment
  next_child_unique key at r s p q =
      let same : r.answer ≡ s.answer = p.answered ∙ sym q.answered in
      (same, viewed_unique t.file _ _ _ _ (subst (λ (c : Result Child Refusal). ChildIn t.file c r.fragment) same p.viewed) q.viewed)

  pub next_key_unique : (at : ℕ) (buffer : List ℕ) (r s : Result WrittenKey Refusal) (left right : List ℕ) → KeyOf t at buffer r left → KeyOf t at buffer s right → (r ≡ s) × (left ≡ right)
  next_key_unique at buffer r s left right p q = (p.answered ∙ sym q.answered, p.wrote ∙ sym q.wrote)

  pub check_unique : (r s : Checked) → r ≡ check_table (manner_of t.manner) t.file.now t.start t.end → s ≡ check_table (manner_of t.manner) t.file.now t.start t.end → r ≡ s
  check_unique r s p q = p ∙ sym q
