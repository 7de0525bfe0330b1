-- The order of refusals in the document's words: for each number, what was passed before it and what it is given for; and that a refusal
-- leaves the memory as it was.
use Rattle.std.specs.Prelude.{Ok, Err, Some, None}
use Rattle.model.specs.Inserted.{Inserted}
use Prim.Native.Nat.{ℕ, ◌+◌, ◌≤◌, ◌<◌}
use mathlib.Core.Path.{◌≡◌}
use mathlib.Core.Bool.{true, false}
use mathlib.Core.List.{List, []}
use lib.Dec.{ltb}
use lib.ListN.{length}
use borrow.Author.Tests.{lt-ltb, le-ltb, eq-eqb, ne_eqb}
use Rattle.words.specs.Choice.{pick}
use Rattle.text.specs.Utf8.{is_utf8}
use Rattle.layout.specs.declared.refusal.Refusal.TheVariants.{MemoryBroken, TableUnknown, TableInItself}
use Rattle.layout.specs.Limits.{longest_key, deepest}
use Rattle.layout.specs.Kind.{table_kind}
use Rattle.build_memory.specs.Memory.{valid, Memory, outcome}
use Rattle.build_memory.specs.Item.{stored}
use Rattle.build_tables.specs.Table.{free_standing}
use Rattle.build_values.specs.Insert.{insert_below_path, keyed}
use Rattle.build_nested.specs.Nest.{held_height, when_accepted, settled, nested, nest_at_key, insert_table}
use Rattle.build_values.specs.Answer.{inserted_number}
use Rattle.build_values.proofs.AnswerLaws.{number_of, Still, refused_still, new_still, old_still, still, keyed_still, walked_still}

-- ---- the insert of a table: 29, 24 for the receiver, 24 for the guest, 25, 8, 20, then as for a value

module _ (ws ar : List ℕ) (t : ℕ) (key : List ℕ) (guest : ℕ) where
  pub table_29 : valid ws (length ar) ≡ false → number_of (insert_table ws ar t key guest) ≡ 29
  unfolding insert_table inserted_number pick
  table_29 h = simp h

  module _ (ok : valid ws (length ar) ≡ true) where
    pub table_24 : free_standing ws t ≡ false → number_of (insert_table ws ar t key guest) ≡ 24
    unfolding insert_table nest_at_key inserted_number pick
    table_24 h = simp (ok, h)

    module _ (free : free_standing ws t ≡ true) where
      pub guest_24 : free_standing ws guest ≡ false → number_of (insert_table ws ar t key guest) ≡ 24
      unfolding insert_table nest_at_key inserted_number pick
      guest_24 h = simp (ok, free, h)

      module _ (loose : free_standing ws guest ≡ true) where
        pub table_25 : t ≡ guest → number_of (insert_table ws ar t key guest) ≡ 25
        unfolding insert_table nest_at_key inserted_number pick
        table_25 h = simp (ok, free, loose, eq-eqb _ _ h)

        module _ (two : t ≡ guest → ⊥) where
          pub table_8 : is_utf8 key ≡ false → number_of (insert_table ws ar t key guest) ≡ 8
          unfolding insert_table nest_at_key keyed inserted_number pick
          table_8 h = simp (ok, free, loose, ne_eqb _ _ two, h)

          module _ (text : is_utf8 key ≡ true) where
            pub table_20 : longest_key < length key → number_of (insert_table ws ar t key guest) ≡ 20
            unfolding insert_table nest_at_key keyed inserted_number pick
            table_20 h = simp (ok, free, loose, ne_eqb _ _ two, text, lt-ltb _ _ h)

            pub table-walked : length key ≤ longest_key
                → (insert_table ws ar t key guest).answer
                ≡ (insert_below_path ws ar t key (stored table_kind [] guest) (ltb deepest (held_height ws guest + 1 + 1))).answer
            unfolding insert_table nest_at_key keyed nested settled pick
            table-walked h = simp (ok, free, loose, ne_eqb _ _ two, text, le-ltb _ _ h)

-- ---- a refusal leaves the memory as it was

module _ (ws ar : List ℕ) (t : ℕ) (key : List ℕ) where
  settled_still : (guest height : ℕ) (r : Inserted) (m : Memory) → Still ws ar (outcome r m) → Still ws ar (settled guest height (outcome r m))
  unfolding settled when_accepted
  settled_still guest height (Ok None) m s = new_still ws ar _
  settled_still guest height (Ok (Some kind)) m s = old_still ws ar kind _
  settled_still guest height (Err why) m s = s

  pub table_still : (guest : ℕ) → Still ws ar (insert_table ws ar t key guest)
  unfolding insert_table nest_at_key nested
  table_still guest =
      let o = insert_below_path ws ar t key (stored table_kind [] guest) (ltb deepest (held_height ws guest + 1 + 1)) in
      still ws ar _ _ _
      (still ws ar _ _ _
      (still ws ar _ _ _ (still ws ar _ _ _ (refused_still ws ar TableInItself) (keyed_still ws ar t key _ (settled_still guest (held_height ws guest + 1) o.answer o.after (walked_still ws ar t key _ _))))
      (refused_still ws ar TableUnknown))
      (refused_still ws ar TableUnknown))
      (refused_still ws ar MemoryBroken)
