-- On honest memory the steps of an insert are the model's: what an item holds, the way down, and the containers that are missing.
use Prim.Native.Nat.{ℕ, zero, suc, ◌+◌, ◌-◌, ◌≤◌, ◌<◌}
use native.Mathlib.Numerals.{add-one}
use native.Mathlib.Omega.{arith}
use native.Mathlib.Decide.{dec_lt}
use mathlib.Core.Path.{◌≡◌, refl, sym, ap, ◌∙◌, subst}
use mathlib.Core.Bool.{Bool, true, false, ◌||◌}
use borrow.Author.Tests.{eqb-true, eqb-false, ne_eqb, lt-ltb}
use lib.Dec.{eqb}
use Rattle.text.specs.Utf8.{is_utf8}
use Rattle.key_order.specs.Prefix.{ends_past, next_end}
use Rattle.layout.specs.Kind.{kind_known, value_kind, table_kind, container_kind}
use Rattle.layout.specs.declared.kind.Kind.{Kind}
use Rattle.layout.specs.Limits.{longest_key, most_items}
use Rattle.build_memory.specs.Memory.{item_total, room_used, item_kind, memory}
use Rattle.build_memory.specs.Find.{find_key}
use Rattle.build_memory.specs.Item.{stored, kind_of, make_item}
use Rattle.build_memory.proofs.MadeLaws.{made_arena}
use Rattle.build_values.specs.declared.walk.Way.{Way}
use Rattle.build_values.specs.Walk.{way, descend, sum}
use Rattle.build_values.specs.Insert.{Extended, containers}
use mathlib.Core.List.{List, [], ◌∷◌, ◌++◌, append_assoc}
use lib.ListN.{length, take}
use lib.Seq.{length-take-le, take-length}
use Rattle.words.specs.Choice.{pick}
use Rattle.words.proofs.ChoiceLaws.{pick-false}
use Rattle.build_values.proofs.WalkLaws.{further, walk_end, walk_miss, walk_block, walk_pass, make_end, make_more}
use Rattle.model.specs.Table.{Content, Entry, entry_at, is_container}
use Rattle.model.specs.Table as model
use Rattle.model.specs.Walk as seen
use Rattle.model.specs.Walk.{is_there, entry, Walked, walk}
use Rattle.history.specs.Items.{Item, item, item_of, Table}
use Rattle.history.specs.Honest.{Good}
use Rattle.history.proofs.TidySearch.{false-true}
use Rattle.history.proofs.TidyMade as made
use Rattle.history.proofs.GoodContainers.{At, boxed}
use Rattle.history.proofs.Meaning.{content_from, above_of, entry_from, items_of, item_at_lem, items_made}
use Rattle.history.proofs.ModelSearch.{find_same, there_same}
use Rattle.history.proofs.ModelWalk as way

-- ---- what an item holds, by its kind

pub box_content : (kind : ℕ) (value : List ℕ) (guest : ℕ) → kind_known kind ≡ true → is_container (content_from kind value guest) ≡ eqb kind container_kind
unfolding content_from pick
box_content kind value guest known = by_kind (eqb kind value_kind) refl (eqb kind table_kind) refl (eqb kind container_kind) refl known
  where
    by_kind : (p : Bool) → eqb kind value_kind ≡ p → (q : Bool) → eqb kind table_kind ≡ q → (r : Bool) → eqb kind container_kind ≡ r → (p || (q || r)) ≡ true
        → is_container (pick p (Content.bytes value) (pick q (Content.nested guest) Content.container)) ≡ r
    by_kind true a q b true d h = absurd (let x = eqb-true kind value_kind a in let y = eqb-true kind container_kind d in omega arith)
    by_kind true a q b false d h = refl
    by_kind false a true b true d h = absurd (let x = eqb-true kind table_kind b in let y = eqb-true kind container_kind d in omega arith)
    by_kind false a true b false d h = refl
    by_kind false a false b true d h = refl
    by_kind false a false b false d h = false-true h

pub kind_content : (kind : ℕ) (value : List ℕ) (guest : ℕ) → model.kind_of (content_from kind value guest) ≡ kind_of kind
unfolding content_from kind_of pick
kind_content kind value guest = by_kind (eqb kind value_kind) (eqb kind table_kind)
  where
    by_kind : (p q : Bool) → model.kind_of (pick p (Content.bytes value) (pick q (Content.nested guest) Content.container)) ≡ pick p Kind.Value (pick q Kind.Table Kind.Container)
    by_kind true q = refl
    by_kind false true = refl
    by_kind false false = refl

entry_content : (x : Item) → (entry_from x).content ≡ content_from x.kind x.value x.guest
unfolding entry_from
entry_content x = refl

above_next : (n : ℕ) → above_of (n + 1) ≡ n
unfolding above_of
above_next n = pick-false _ _ (ne_eqb (n + 1) 0 (λ (e : n + 1 ≡ 0). omega arith)) ∙ (let z : n + 1 - 1 ≡ n = omega arith in z)

kind_of_lem : (ws ar : List ℕ) (i : ℕ) → (item_of ws ar i).kind ≡ item_kind ws i
unfolding item_of
kind_of_lem ws ar i = refl

-- ---- the way down

module _ (g : ℕ → Table) (ws ar : List ℕ) (good : Good g ws ar) (t sep : ℕ) (k : List ℕ) (c : Content) where
  abbrev items : List Entry
  items = items_of ws ar

  abbrev Walks : ℕ → ℕ → Walked → Type 0
  Walks from parent r = walk t c (way.along sep k from) items (above_of parent) ≡ r

  pub record Down (from parent : ℕ) (w : Way) : Type 0 where
    pub clear : w.clear ≡ true → Walks from parent (walk t c (way.along sep k w.from) items (above_of w.parent))
    pub shut : w.clear ≡ false → Walks from parent Walked.blocked

  abbrev Falls : ℕ → ℕ → Type 0
  Falls from parent = Down from parent (descend ws ar t k (ends_past sep k from) from parent)

  pub box_same : (i : ℕ) → i < item_total ws → is_container (entry_at items i).content ≡ eqb (item_kind ws i) container_kind
  box_same i h =
      let x = item_of ws ar i in
      ap (λ (e : Entry). is_container e.content) (item_at_lem ws ar i h) ∙ ap is_container (entry_content x) ∙ box_content x.kind x.value x.guest (good.consistent.kinds i h)
      ∙ ap (λ (n : ℕ). eqb n container_kind) (kind_of_lem ws ar i)

  fall_step : (from parent : ℕ) → from ≤ length k → ((f p : ℕ) → from < f → f ≤ length k → Falls f p) → Falls from parent
  fall_step from parent h ih = by_end (dec_lt (next_end sep k from) (length k))
    where
      stop : Down from parent (way true from parent)
      stop = record { clear = λ z. refl; shut = λ z. false-true (sym z) }

      here : (key : List ℕ) (i : ℕ) → i ≡ find_key ws ar t key → i < item_total ws → (is_there items t key ≡ true) × (seen.find_key items t key ≡ i)
      here key i is l =
          (there_same g ws ar good t key ∙ lt-ltb (find_key ws ar t key) (item_total ws) (omega arith), sym (find_same g ws ar good t key) ∙ sym is)

      by_kind : (i : ℕ) → i ≡ find_key ws ar t (take (next_end sep k from) k) → i < item_total ws → next_end sep k from < length k
          → (q : Bool) → eqb (item_kind ws i) container_kind ≡ q → Falls from parent
      by_kind i is l u true q =
          let e = next_end sep k from in
          let f = further sep k from h e refl u in
          let r = here (take e k) i is l in
          let box = ap (λ (j : ℕ). is_container (entry_at items j).content) r.1 ∙ box_same i l ∙ q in
          let deep = ih e (i + 1) f.rises (omega arith) in
          let one = way.walk_pass sep k from h t c items (above_of parent) e refl u r.0 box ∙ ap (walk t c (way.along sep k e) items) (r.1 ∙ sym (above_next i)) in
          subst (Down from parent) (sym (walk_pass sep k from h e refl ws ar t parent u i is l (eqb-true (item_kind ws i) container_kind q)))
          (record { clear = λ z. one ∙ deep.clear z; shut = λ z. one ∙ deep.shut z })
      by_kind i is l u false q =
          let e = next_end sep k from in
          let r = here (take e k) i is l in
          let box = ap (λ (j : ℕ). is_container (entry_at items j).content) r.1 ∙ box_same i l ∙ q in
          subst (Down from parent) (walk_block sep k from h e refl ws ar t parent u i is l (eqb-false (item_kind ws i) container_kind q))
          (record { clear = λ z. false-true z; shut = λ z. way.walk_blocks sep k from h t c items (above_of parent) e refl u r.0 box })

      by_field : next_end sep k from < length k → Dec (find_key ws ar t (take (next_end sep k from) k) < item_total ws) → Falls from parent
      by_field u (yes l) =
          by_kind (find_key ws ar t (take (next_end sep k from) k)) refl l u (eqb (item_kind ws (find_key ws ar t (take (next_end sep k from) k))) container_kind) refl
      by_field u (no l) =
          subst (Down from parent) (walk_miss sep k from h (next_end sep k from) refl ws ar t parent u (find_key ws ar t (take (next_end sep k from) k)) refl (omega arith)) stop

      by_end : Dec (next_end sep k from < length k) → Falls from parent
      by_end (yes u) = by_field u (dec_lt (find_key ws ar t (take (next_end sep k from) k)) (item_total ws))
      by_end (no u) = subst (Down from parent) (walk_end sep k from h (next_end sep k from) refl ws ar t parent (omega arith)) stop

  fall_fuel : (fuel from parent : ℕ) → length k ≤ from + fuel → from ≤ length k → Falls from parent
  fall_fuel zero from parent b h = fall_step from parent h (λ f p l v. absurd (omega arith))
  fall_fuel (suc fuel) from parent b h = fall_step from parent h (λ f p l v. fall_fuel fuel f p (omega arith) v)

  pub way_down : Falls 0 0
  way_down = fall_fuel (length k) 0 0 (omega arith) (omega arith)

-- ---- the containers that are missing, and the entry of the key itself

box_entry : (t : ℕ) (key : List ℕ) (parent : ℕ) → entry_from (item t key parent container_kind [] 0) ≡ entry t key Content.container (above_of parent)
unfolding entry_from content_from pick
box_entry t key parent = refl

module _ (g : ℕ → Table) (t : ℕ) (k : List ℕ) (sep G : ℕ) (sep-is : (g t).sep ≡ sep) (loose : (g t).placed ≡ 1 → ⊥) (text : is_utf8 k ≡ true)
    (short : length k ≤ longest_key) (c : Content) where
  abbrev Here : List ℕ → List ℕ → ℕ → ℕ → Type 0
  Here ws ar parent from = At g t k sep G sep-is loose text short ws ar parent from

  abbrev Adds : List ℕ → List ℕ → ℕ → ℕ → Extended → Type 0
  Adds ws ar parent from l =
      items_of l.after.words l.after.arena ++ (entry t k c (above_of l.parent) ∷ []) ≡ items_of ws ar ++ way.new_entries t k c (ends_past sep k from) (item_total ws) (above_of parent)

  abbrev Lays : List ℕ → List ℕ → ℕ → ℕ → Type 0
  Lays ws ar parent from = Adds ws ar parent from (containers t k (ends_past sep k from) (memory ws ar) parent)

  lay_step : (ws ar : List ℕ) (parent from : ℕ) → Here ws ar parent from → item_total ws + length (ends_past sep k from) ≤ most_items
      → room_used ws + sum (ends_past sep k from) ≤ length ar
      → ((w a : List ℕ) (p f : ℕ) → from < f → Here w a p f → item_total w + length (ends_past sep k f) ≤ most_items → room_used w + sum (ends_past sep k f) ≤ length a → Lays w a p f)
      → Lays ws ar parent from
  lay_step ws ar parent from at few room ih = by_end (dec_lt (next_end sep k from) (length k))
    where
      by_end : Dec (next_end sep k from < length k) → Lays ws ar parent from
      by_end (yes u) =
          let e = next_end sep k from in
          let h = at.above.within in
          let f = further sep k from h e refl u in
          let size = length-take-le e k (omega arith) in
          let s = stored container_kind [] 0 in
          let m = make_item (memory ws ar) t parent (take e k) s in
          let few' : item_total ws < most_items = omega arith in
          let room' : room_used ws + length (take e k) + 0 ≤ length ar = omega arith in
          let tidy = at.good.tidy in
          let three = made.made_three ws ar t parent (take e k) s tidy few' room' in
          let four : room_used m.words ≡ room_used ws + length (take e k) + 0 = made.made_four ws ar t parent (take e k) s tidy few' room' in
          let la = made_arena ws ar t parent (take e k) s in
          let deep = ih m.words m.arena (item_total ws + 1) e f.rises (boxed g t k sep G sep-is loose text short ws ar parent from at e refl u few' room') (omega arith) (omega arith) in
          let box = entry t (take e k) Content.container (above_of parent) in
          subst (Adds ws ar parent from) (sym (make_more sep k from h e refl t (memory ws ar) parent m u refl))
          (deep
          ∙ ap (λ (l : List Entry). l ++ way.new_entries t k c (ends_past sep k e) (item_total m.words) (above_of (item_total ws + 1)))
          (items_made ws ar t parent (take e k) s tidy few' room' ∙ ap (λ (x : Entry). items_of ws ar ++ (x ∷ [])) (box_entry t (take e k) parent))
          ∙ append_assoc (items_of ws ar) (box ∷ []) (way.new_entries t k c (ends_past sep k e) (item_total m.words) (above_of (item_total ws + 1)))
          ∙ ap (λ (n : ℕ). items_of ws ar ++ (box ∷ way.new_entries t k c (ends_past sep k e) n (above_of (item_total ws + 1)))) (three ∙ add-one (item_total ws))
          ∙ ap (λ (n : ℕ). items_of ws ar ++ (box ∷ way.new_entries t k c (ends_past sep k e) (suc (item_total ws)) n)) (above_next (item_total ws))
          ∙ ap (λ (l : List Entry). items_of ws ar ++ l) (sym (way.new_more t k c e (ends_past sep k e) (item_total ws) (above_of parent) (way.ends_some sep k e (omega arith))))
          ∙ ap (λ (l : List ℕ). items_of ws ar ++ way.new_entries t k c l (item_total ws) (above_of parent)) (sym f.cons))
      by_end (no u) =
          let h = at.above.within in
          subst (Adds ws ar parent from) (make_end sep k from h (next_end sep k from) refl t (memory ws ar) parent (omega arith))
          (ap (λ (key : List ℕ). items_of ws ar ++ (entry t key c (above_of parent) ∷ [])) (sym (take-length k))
          ∙ ap (λ (l : List Entry). items_of ws ar ++ l) (sym (way.new_one t k c (length k) (item_total ws) (above_of parent)))
          ∙ ap (λ (l : List ℕ). items_of ws ar ++ way.new_entries t k c l (item_total ws) (above_of parent)) (sym (way.ends_last sep k from h (omega arith))))

  lay_fuel : (fuel : ℕ) (ws ar : List ℕ) (parent from : ℕ) → length k ≤ from + fuel → Here ws ar parent from → item_total ws + length (ends_past sep k from) ≤ most_items
      → room_used ws + sum (ends_past sep k from) ≤ length ar → Lays ws ar parent from
  lay_fuel zero ws ar parent from b at few room = lay_step ws ar parent from at few room (λ w a p f l z x y. absurd (let h = z.above.within in omega arith))
  lay_fuel (suc fuel) ws ar parent from b at few room = lay_step ws ar parent from at few room (λ w a p f l z x y. lay_fuel fuel w a p f (omega arith) z x y)

  pub extended_entries : (ws ar : List ℕ) (parent from : ℕ) → Here ws ar parent from → item_total ws + length (ends_past sep k from) ≤ most_items
      → room_used ws + sum (ends_past sep k from) ≤ length ar → Lays ws ar parent from
  extended_entries ws ar parent from at few room = lay_fuel (length k) ws ar parent from (omega arith) at few room
