-- Demand 1: callers who change nothing between calls never meet 29.
use Rattle.std.specs.Prelude.{Result, Ok, Err, None}
use Rattle.write.specs.declared.Image.{Image}
use Rattle.model.specs.Inserted.{Inserted}
use Prim.Native.Nat.{ℕ}
use mathlib.Core.Path.{◌≡◌, sym, ap, ◌∙◌}
use mathlib.Core.Bool.{Bool, true}
use mathlib.Core.List.{List}
use native.Mathlib.Omega.{arith}
use lib.ListN.{length}
use Rattle.key_hash.specs.Hash.{rule_of}
use Rattle.words.specs.Choice.{pick}
use Rattle.words.proofs.ChoiceLaws.{pick_with, pick_true}
use Rattle.layout.specs.declared.refusal.Refusal.{Refusal}
use Rattle.layout.specs.declared.refusal.Refusal.TheVariants.{KeyNotUtf8, KeyTooLong, NotContainer, TooManyItems, ArenaFull, TableUnknown, TableInItself, NestedTooDeep}
use Rattle.layout.specs.Refusal as refusal
use Rattle.build_memory.specs.Memory.{Memory, valid, Outcome}
use Rattle.build_memory.specs.Item.{Stored}
use Rattle.build_tables.specs.Table.{add_table, new_table, item_count}
use Rattle.build_tables.specs.Answer.{added_number, counted_number}
use Rattle.build_values.specs.Insert.{keyed, insert_below_path, insert_or_replace, insert_new, overwrite, insert_at_key, insert_value}
use Rattle.build_values.specs.Answer.{inserted_number}
use Rattle.build_nested.specs.Nest.{settled, nested, nest_at_key, insert_table}
use Rattle.build_rules.specs.Valid.{fully_valid}
use Rattle.write.specs.Write.{write_answer, written_number}
use Rattle.history.proofs.History.{reached_valid, reached_whole}
use Rattle.answers.specs.Manner.{form_of}
use Rattle.demands.specs.Calls.{Call, number}
use Rattle.demands.specs.Model as model
use Rattle.demands.specs.Demand1.{Never29}
use Rattle.demands.proofs.Contracts.{answers, does_is}
use Rattle.demands.proofs.Models.{stands}

-- an answer of another number
record Other {A : Type 0} (number : A → ℕ) (a : A) : Type 0 where
  pub other : number a ≡ 29 → ⊥

other_pick : {A B : Type 0} (number : B → ℕ) (of : A → B) (b : Bool) (x y : A) → Other number (of x) → Other number (of y) → Other number (of (pick b x y))
other_pick number of b x y p q = pick_with (λ a. Other number (of a)) b x y (λ _. p) (λ _. q)

-- ---- inserts

abbrev said : Outcome Inserted → Inserted
said o = o.answer

no : (why : Refusal) → (refusal.number why ≡ 29 → ⊥) → Other inserted_number (Err why)
unfolding inserted_number
no why n = record { other = n }

new : Other inserted_number (Ok None)
unfolding inserted_number
new = record { other = λ e. omega arith }

module _ (ws ar : List ℕ) (t : ℕ) (key : List ℕ) where
  walked_other : (c : Stored) (deep : Bool) → Other inserted_number (insert_below_path ws ar t key c deep).answer
  unfolding insert_below_path insert_or_replace insert_new overwrite inserted_number
  walked_other c deep =
      other_pick inserted_number said _ _ _
      (other_pick inserted_number said _ _ _ (no NestedTooDeep (λ e. omega arith))
      (other_pick inserted_number said _ _ _ (other_pick inserted_number said _ _ _ (no ArenaFull (λ e. omega arith)) (record { other = λ e. omega arith }))
      (other_pick inserted_number said _ _ _ (no TooManyItems (λ e. omega arith)) (other_pick inserted_number said _ _ _ (no ArenaFull (λ e. omega arith)) new))))
      (no NotContainer (λ e. omega arith))

  keyed_other : (o : Outcome Inserted) → Other inserted_number o.answer → Other inserted_number (keyed ws ar key o).answer
  unfolding keyed
  keyed_other o p =
      other_pick inserted_number said _ _ _ (other_pick inserted_number said _ _ _ (no KeyTooLong (λ e. omega arith)) p) (no (KeyNotUtf8 _) (λ e. omega arith))

  value_other : (value : List ℕ) → valid ws (length ar) ≡ true → Other inserted_number (insert_value ws ar t key value).answer
  unfolding insert_value insert_at_key
  value_other value ok =
      rw (pick_true (insert_at_key ws ar t key value) _ ok)
      (other_pick inserted_number said _ _ _ (keyed_other _ (walked_other _ _)) (no TableUnknown (λ e. omega arith)))

  table_other : (guest : ℕ) → valid ws (length ar) ≡ true → Other inserted_number (insert_table ws ar t key guest).answer
  unfolding insert_table nest_at_key nested settled
  table_other guest ok =
      rw (pick_true (nest_at_key ws ar t key guest) _ ok)
      (other_pick inserted_number said _ _ _
      (other_pick inserted_number said _ _ _
      (other_pick inserted_number said _ _ _ (no TableInItself (λ e. omega arith)) (keyed_other _ (walked_other _ _)))
      (no TableUnknown (λ e. omega arith)))
      (no TableUnknown (λ e. omega arith)))

-- ---- the others

new_table_other : (ws ar given : List ℕ) → valid ws (length ar) ≡ true → Other added_number (new_table ws ar given).answer
unfolding new_table add_table added_number
new_table_other ws ar given ok =
    let say : Outcome (Result ℕ Refusal) → Result ℕ Refusal = λ (o : Outcome (Result ℕ Refusal)). o.answer in
    rw (pick_true _ _ ok)
    (other_pick added_number say _ _ _ (record { other = λ e. omega arith })
    (other_pick added_number say _ _ _ (record { other = λ e. omega arith }) (record { other = λ e. omega arith })))

count_other : (ws ar : List ℕ) (t : ℕ) → valid ws (length ar) ≡ true → Other counted_number (item_count ws ar t)
unfolding item_count counted_number
count_other ws ar t ok =
    rw (pick_true _ _ ok) (other_pick counted_number (λ (a : Result ℕ Refusal). a) _ _ _ (record { other = λ e. omega arith }) (record { other = λ e. omega arith }))

write_other : (rule : ℕ → ℕ) (filter : ℕ) (ws ar : List ℕ) (t room : ℕ) → fully_valid ws ar ≡ true → Other written_number (write_answer rule filter ws ar t room)
unfolding write_answer written_number
write_other rule filter ws ar t room ok =
    let same : Result Image Refusal → Result Image Refusal = λ (a : Result Image Refusal). a in
    rw (pick_true _ _ ok)
    (other_pick written_number same _ _ _
    (other_pick written_number same _ _ _ (record { other = λ e. omega arith })
    (other_pick written_number same _ _ _ (record { other = λ e. omega arith })
    (other_pick written_number same _ _ _ (record { other = λ e. omega arith }) (record { other = λ e. omega arith }))))
    (record { other = λ e. omega arith }))

call_other : (m : Memory) → valid m.words (length m.arena) ≡ true → fully_valid m.words m.arena ≡ true → (call : Call) → number (answers m call) ≡ 29 → ⊥
unfolding answers model.added model.inserted model.counted model.written
call_other m ok whole (Call.new_table given) e = (new_table_other m.words m.arena given ok).other e
call_other m ok whole (Call.insert_value t key value) e = (value_other m.words m.arena t key value ok).other e
call_other m ok whole (Call.insert_table t key guest) e = (table_other m.words m.arena t key guest ok).other e
call_other m ok whole (Call.item_count t) e = (count_other m.words m.arena t ok).other e
call_other m ok whole (Call.write t buffer manner filter) e = (write_other (rule_of (form_of manner)) filter m.words m.arena t (length buffer) whole).other e

pub never_29 : Never29
never_29 room events m h call said after left d e =
    let r = (stands room events m h).reached in
    call_other m (reached_valid _ _ r) (reached_whole _ _ r) call (ap number (sym (does_is m call said after left d).answer) ∙ e)
