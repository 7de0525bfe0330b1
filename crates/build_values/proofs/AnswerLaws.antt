-- The order of refusals in the document's words: for each number, what was passed before it and what it is given for; and that a refusal
-- leaves the memory as it was.
use Rattle.std.specs.Prelude.{Ok, Err, Some, None}
use Rattle.model.specs.Inserted.{Inserted}
use Prim.Native.Nat.{ℕ, ◌+◌, ◌≤◌, ◌<◌}
use mathlib.Core.Path.{◌≡◌, refl}
use native.Mathlib.Omega.{arith}
use mathlib.Core.Bool.{Bool, true, false}
use mathlib.Core.List.{List}
use lib.ListN.{length}
use borrow.Author.Tests.{lt-ltb, le-ltb}
use Rattle.words.specs.Choice.{pick}
use Rattle.words.proofs.ChoiceLaws.{pick_with}
use Rattle.text.specs.Utf8.{first_bad, is_utf8}
use Rattle.key_order.specs.Prefix.{ends_past}
use Rattle.layout.specs.declared.kind.Kind.{Kind}
use Rattle.layout.specs.declared.refusal.Refusal.{Refusal}
use Rattle.layout.specs.declared.refusal.Refusal.TheVariants.{MemoryBroken, TableUnknown, KeyNotUtf8, KeyTooLong, NotContainer, TooManyItems, ArenaFull, NestedTooDeep}
use Rattle.layout.specs.Limits.{longest_key, most_items}
use Rattle.layout.specs.Kind.{value_kind}
use Rattle.build_memory.specs.Memory.{item_total, room_used, table_separator, item_kind, valid, Memory, memory, Outcome, outcome}
use Rattle.build_memory.specs.Find.{find_key}
use Rattle.build_memory.specs.Item.{Stored, stored, kind_of}
use Rattle.build_tables.specs.Table.{free_standing}
use Rattle.build_values.specs.Walk.{way_of, sum}
use Rattle.build_values.specs.Insert.{refused, insert_new, overwrite, insert_or_replace, insert_below_path, keyed, insert_at_key, insert_value}
use Rattle.build_values.specs.Answer.{inserted_number}

-- ---- the insert of a value: 29, 24, 8, 20, 21, 22, 23

abbrev pub number_of : Outcome Inserted → ℕ
number_of o = inserted_number o.answer

module _ (ws ar : List ℕ) (t : ℕ) (key : List ℕ) (c : Stored) (deep : Bool) where
  abbrev ends : List ℕ
  ends = ends_past (table_separator ws t) key (way_of ws ar t key).from

  pub walked_21 : (way_of ws ar t key).clear ≡ false → number_of (insert_below_path ws ar t key c deep) ≡ 21
  unfolding insert_below_path inserted_number pick
  walked_21 h = simp h

  module _ (clear : (way_of ws ar t key).clear ≡ true) where
    pub walked_26 : deep ≡ true → number_of (insert_below_path ws ar t key c deep) ≡ 26
    unfolding insert_below_path inserted_number pick
    walked_26 h = simp (clear, h)

    module _ (shallow : deep ≡ false) where
      module _ (missing : item_total ws ≤ find_key ws ar t key) where
        pub walked_22 : most_items < item_total ws + length ends → number_of (insert_below_path ws ar t key c deep) ≡ 22
        unfolding insert_below_path insert_or_replace insert_new inserted_number pick
        walked_22 h = simp (clear, shallow, le-ltb _ _ missing, lt-ltb _ _ h)

        module _ (few : item_total ws + length ends ≤ most_items) where
          pub walked_23 : length ar < room_used ws + sum ends + length c.value → number_of (insert_below_path ws ar t key c deep) ≡ 23
          unfolding insert_below_path insert_or_replace insert_new inserted_number pick
          walked_23 h = simp (clear, shallow, le-ltb _ _ missing, le-ltb _ _ few, lt-ltb _ _ h)

          pub walked_new : room_used ws + sum ends + length c.value ≤ length ar → (insert_below_path ws ar t key c deep).answer ≡ Ok None
          unfolding insert_below_path insert_or_replace insert_new pick
          walked_new h = simp (clear, shallow, le-ltb _ _ missing, le-ltb _ _ few, le-ltb _ _ h)

      module _ (there : find_key ws ar t key < item_total ws) where
        pub walked_23_old : length ar < room_used ws + length c.value → number_of (insert_below_path ws ar t key c deep) ≡ 23
        unfolding insert_below_path insert_or_replace overwrite inserted_number pick
        walked_23_old h = simp (clear, shallow, lt-ltb _ _ there, lt-ltb _ _ h)

        pub walked_old : room_used ws + length c.value ≤ length ar
            → (insert_below_path ws ar t key c deep).answer ≡ Ok (Some (kind_of (item_kind ws (find_key ws ar t key))))
        unfolding insert_below_path insert_or_replace overwrite pick
        walked_old h = simp (clear, shallow, lt-ltb _ _ there, le-ltb _ _ h)

module _ (ws ar : List ℕ) (t : ℕ) (key value : List ℕ) where
  pub value_29 : valid ws (length ar) ≡ false → number_of (insert_value ws ar t key value) ≡ 29
  unfolding insert_value inserted_number pick
  value_29 h = simp h

  module _ (ok : valid ws (length ar) ≡ true) where
    pub value_24 : free_standing ws t ≡ false → number_of (insert_value ws ar t key value) ≡ 24
    unfolding insert_value insert_at_key inserted_number pick
    value_24 h = simp (ok, h)

    module _ (free : free_standing ws t ≡ true) where
      pub value_8 : is_utf8 key ≡ false → number_of (insert_value ws ar t key value) ≡ 8
      unfolding insert_value insert_at_key keyed inserted_number pick
      value_8 h = simp (ok, free, h)

      module _ (text : is_utf8 key ≡ true) where
        pub value_20 : longest_key < length key → number_of (insert_value ws ar t key value) ≡ 20
        unfolding insert_value insert_at_key keyed inserted_number pick
        value_20 h = simp (ok, free, text, lt-ltb _ _ h)

        pub value-walked : length key ≤ longest_key → insert_value ws ar t key value ≡ insert_below_path ws ar t key (stored value_kind value 0) false
        unfolding insert_value insert_at_key keyed pick
        value-walked h = simp (ok, free, text, le-ltb _ _ h)

-- ---- a refusal leaves the memory as it was

module _ (ws ar : List ℕ) where
  pub record Still (o : Outcome Inserted) : Type 0 where
    pub same : (why : Refusal) → o.answer ≡ Err why → o.after ≡ memory ws ar

  pub refused_still : (why : Refusal) → Still (refused why ws ar)
  refused_still why = record { same = λ w e. refl }

  accepted_still : (o : Outcome Inserted) → ((why : Refusal) → o.answer ≡ Err why → ⊥) → Still o
  accepted_still o never = record { same = λ why e. absurd (never why e) }

  pub new_still : (m : Memory) → Still (outcome (Ok None) m)
  new_still m = accepted_still (outcome (Ok None) m) (λ why e. let z : ◌≡◌ {A = ℕ} 0 1 = cc in omega arith)

  pub old_still : (kind : Kind) (m : Memory) → Still (outcome (Ok (Some kind)) m)
  old_still kind m = accepted_still (outcome (Ok (Some kind)) m) (λ why e. let z : ◌≡◌ {A = ℕ} 0 1 = cc in omega arith)

  pub still : (b : Bool) (o o' : Outcome Inserted) → Still o → Still o' → Still (pick b o o')
  still b o o' s s' = pick_with Still b o o' (λ e. s) (λ e. s')

  module _ (t : ℕ) (key : List ℕ) where
    pub walked_still : (c : Stored) (deep : Bool) → Still (insert_below_path ws ar t key c deep)
    unfolding insert_below_path insert_or_replace insert_new overwrite
    walked_still c deep =
        still _ _ _
        (still _ _ _ (refused_still NestedTooDeep)
        (still _ _ _ (still _ _ _ (refused_still ArenaFull) (old_still _ _))
        (still _ _ _ (refused_still TooManyItems) (still _ _ _ (refused_still ArenaFull) (new_still _)))))
        (refused_still NotContainer)

    pub keyed_still : (o : Outcome Inserted) → Still o → Still (keyed ws ar key o)
    unfolding keyed
    keyed_still o s = still _ _ _ (still _ _ _ (refused_still KeyTooLong) s) (refused_still (KeyNotUtf8 (first_bad key)))

    pub value_still : (value : List ℕ) → Still (insert_value ws ar t key value)
    unfolding insert_value insert_at_key
    value_still value =
        still _ _ _ (still _ _ _ (keyed_still _ (walked_still (stored value_kind value 0) false)) (refused_still TableUnknown)) (refused_still MemoryBroken)
