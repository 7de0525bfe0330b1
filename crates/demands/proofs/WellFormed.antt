-- Every table of a memory that keeps the rules of a write is well_formed_lem.
use mathlib.Core.Path.{◌≡◌, sym, ap, ◌∙◌}
use mathlib.Core.Bool.{true, false}
use mathlib.Core.Logic.{⊎_elim}
use mathlib.Core.List.{List}
use Prim.Native.Nat.{ℕ, ◌-◌, ◌≤◌, ◌<◌}
use native.Mathlib.Omega.{arith}
use borrow.Author.Tests.{eq-eqb, ne_eqb}
use lib.ListN.{length}
use Rattle.words.proofs.ChoiceLaws.{pick_true, pick-false, eq_or_ne}
use Rattle.text.specs.Utf8.{is_utf8}
use Rattle.layout.specs.Item.{no_item}
use Rattle.model.specs.Table.{Rows, Has, is_child, is_container}
use Rattle.layout.specs.Limits.{longest_key, most_items}
use Rattle.build_memory.specs.Memory.{item_total, item_parent, key_of}
use Rattle.build_memory.specs.Find.{find_key}
use Rattle.build_rules.specs.Valid.{fully_valid}
use Rattle.build_rules.proofs.ValidFacts.{WholeFacts, whole_facts}
use Rattle.image.specs.WellFormed.{ChildFits, WellFormed}
use Rattle.write_numbers.specs.Roster.{state_of}
use Rattle.write_numbers.proofs.StateLaws.{state_members, state_key, state_below, state_once, state_table, state_has, all_of_table_few}
use Rattle.build_memory.proofs.MeaningLaws.{key_length}
use Rattle.write_numbers.proofs.RosterLaws.{whole_fit}
use Rattle.write_slots.proofs.StateLaws.{above_is, content_past}
use Rattle.demands.proofs.Rising.{member_earlier}

module _ (ws ar : List ℕ) (whole : fully_valid ws ar ≡ true) (t : ℕ) where
  facts : WholeFacts ws ar
  facts = whole_facts ws ar whole

  abbrev table : Rows
  table = state_of ws ar t

  few : length table.members ≤ most_items
  few = rw (state_members ws ar t) (all_of_table_few ws t (whole_fit ws ar whole))

  module _ (i : ℕ) (has : Has table.members i) where
    inside : i < item_total ws
    inside = state_below ws ar t i has

    key : table.key i ≡ key_of ws ar i
    key = state_key ws ar t i inside

    short : length (table.key i) ≤ longest_key
    short =
        let size = key_length ws ar i (omega (arith, facts.key i inside, facts.facts.used)) in
        rw key (omega (arith, facts.short i inside))

    utf8 : is_utf8 (table.key i) ≡ true
    utf8 = rw key (facts.utf8 i inside)

    -- the search for its key in the table answers it
    found : find_key ws ar t (table.key i) ≡ i
    found = rw key (ap (λ (u : ℕ). find_key ws ar u (key_of ws ar i)) (sym (state_table ws ar t i has)) ∙ facts.found i inside)

    -- ---- the item above it

    -- none: what would be above it is past all items, and no container
    root : item_parent ws i ≡ 0 → is_child table i ≡ false
    unfolding is_child
    root e =
        let above : table.above i ≡ no_item = above_is ws ar t i inside ∙ pick_true no_item (item_parent ws i - 1) (eq-eqb _ _ e) in
        ap is_container (ap table.content above ∙ content_past ws ar t no_item (omega (arith, facts.facts.items)))

    above : (item_parent ws i ≡ 0 → ⊥) → table.above i ≡ item_parent ws i - 1
    above some = above_is ws ar t i inside ∙ pick-false no_item (item_parent ws i - 1) (ne_eqb _ _ some)

    below : (item_parent ws i ≡ 0 → ⊥) → ChildFits table i
    below some =
        let p = item_parent ws i - 1 in
        let f = facts.parent i inside some in
        let early : p < i = omega (arith, f.earlier) in
        let member = state_has ws ar t p (omega (arith, inside)) (f.same ∙ state_table ws ar t i has) in record {
          member = rw (above some) member;
          earlier = rw (above some) (member_earlier ws ar t p i member has early);
          begins = rw (above some, key, state_key ws ar t p (omega (arith, inside))) f.begins;
        }

    child : is_child table i ≡ true → ChildFits table i
    child is = ⊎_elim (λ none. absurd (let z : ◌≡◌ {A = ℕ} 0 1 = cc (root none) in omega arith)) below (eq_or_ne (item_parent ws i) 0)

  distinct : (i j : ℕ) → Has table.members i → Has table.members j → table.key i ≡ table.key j → i ≡ j
  distinct i j a b e = sym (found i a) ∙ ap (find_key ws ar t) e ∙ found j b

  pub table_formed : WellFormed (state_of ws ar t)
  table_formed = record { few = few; once = state_once ws ar t; short = short; utf8 = utf8; distinct = distinct; child = child }
