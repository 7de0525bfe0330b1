-- The order of refusals in the document's words: for each number, what was passed before it and what it is given for.
use Rattle.std.specs.Prelude.{Ok}
use Prim.Native.Nat.{ℕ, ◌+◌, ◌*◌, ◌≤◌, ◌<◌}
use mathlib.Core.Path.{◌≡◌}
use mathlib.Core.Bool.{true, false}
use mathlib.Core.List.{List}
use borrow.Author.Tests.{lt-ltb, le-ltb, eq-eqb, ne_eqb}
use lib.ListN.{length}
use Rattle.words.specs.Choice.{pick}
use Rattle.layout.specs.Limits.{longest_file, deepest, most_filter}
use Rattle.build_memory.specs.Memory.{table_total, table_placed}
use Rattle.build_rules.specs.Valid.{fully_valid}
use Rattle.layout.specs.Sizes.{chunk_size}
use Rattle.write_numbers.specs.Roster.{state_of}
use Rattle.build_tables.specs.Table.{free_standing}
use Rattle.write.specs.Write.{has_empty, too_long, image_for, write_answer, written_number}

-- ---- 29, 24, 33, 30, 31

module _ (rule : ℕ → ℕ) (filter : ℕ) (ws ar : List ℕ) (t room : ℕ) where
  pub write_29 : fully_valid ws ar ≡ false → written_number (write_answer rule filter ws ar t room) ≡ 29
  unfolding write_answer written_number pick
  write_29 h = simp h

  module _ (ok : fully_valid ws ar ≡ true) where
    pub write_24_unknown : table_total ws ≤ t → written_number (write_answer rule filter ws ar t room) ≡ 24
    unfolding write_answer free_standing written_number pick
    write_24_unknown h = simp (ok, le-ltb _ _ h)

    module _ (known : t < table_total ws) where
      pub write_24_placed : (table_placed ws t ≡ 0 → ⊥) → written_number (write_answer rule filter ws ar t room) ≡ 24
      unfolding write_answer free_standing written_number pick
      write_24_placed h = simp (ok, lt-ltb _ _ known, ne_eqb _ _ h)

      module _ (loose : table_placed ws t ≡ 0) where
        pub write_33 : most_filter < filter → written_number (write_answer rule filter ws ar t room) ≡ 33
        unfolding write_answer free_standing written_number pick
        write_33 h = simp (ok, lt-ltb _ _ known, eq-eqb _ _ loose, lt-ltb _ _ h)

        module _ (few : filter ≤ most_filter) where
          pub write_30 : has_empty (state_of ws ar) deepest t ≡ true → written_number (write_answer rule filter ws ar t room) ≡ 30
          unfolding write_answer free_standing written_number pick
          write_30 h = simp (ok, lt-ltb _ _ known, eq-eqb _ _ loose, le-ltb _ _ few, h)

          module _ (named : has_empty (state_of ws ar) deepest t ≡ false) where
            pub write_31_file : longest_file < length (image_for rule filter ws ar t) → written_number (write_answer rule filter ws ar t room) ≡ 31
            unfolding write_answer free_standing too_long written_number pick
            write_31_file h = simp (ok, lt-ltb _ _ known, eq-eqb _ _ loose, le-ltb _ _ few, named, lt-ltb _ _ h)

            module _ (short : length (image_for rule filter ws ar t) ≤ longest_file) where
              pub write_31_room : room < length (image_for rule filter ws ar t) → written_number (write_answer rule filter ws ar t room) ≡ 31
              unfolding write_answer free_standing too_long written_number pick
              write_31_room h = simp (ok, lt-ltb _ _ known, eq-eqb _ _ loose, le-ltb _ _ few, named, le-ltb _ _ short, lt-ltb _ _ h)

              -- the root table stands behind the header, 8 bytes, 4 for each filter word and 28 for each item long
              pub write_0 : length (image_for rule filter ws ar t) ≤ room
                  → write_answer rule filter ws ar t room ≡ Ok (record { start = 24; end = 24 + (8 + 4 * filter + 28 * length (state_of ws ar t).members); length = length (image_for rule filter ws ar t) })
              unfolding write_answer free_standing too_long chunk_size pick
              write_0 h = simp (ok, lt-ltb _ _ known, eq-eqb _ _ loose, le-ltb _ _ few, named, le-ltb _ _ short, le-ltb _ _ h)
