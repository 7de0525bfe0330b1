-- Every history leaves memory that calls reach, and that means the model's builder; so its calls answer and lay what the model's do.
use Rattle.std.specs.Prelude.{Result, Ok, Err}
use Rattle.layout.specs.declared.refusal.Refusal.{Refusal}
use Rattle.write.specs.declared.Image.{Image}
use Prim.Native.Nat.{ℕ, ◌+◌, ◌≤◌}
use mathlib.Core.Path.{◌≡◌, refl, sym, ap, ◌∙◌, subst}
use mathlib.Core.Bool.{Bool, true, false}
use mathlib.Core.List.{List, [], ◌∷◌}
use native.Mathlib.Omega.{arith}
use borrow.Author.Tests.{leb-true}
use lib.Dec.{ltb, leb}
use lib.ListN.{length}
use Rattle.key_hash.specs.Hash.{rule_of}
use Rattle.layout.specs.Limits.{deepest, most_filter}
use Rattle.layout.specs.Sizes.{chunk_size, header_size}
use Rattle.words.specs.Choice.{pick}
use Rattle.words.proofs.ChoiceLaws.{pick_true}
use Rattle.layout.specs.declared.refusal.Refusal.TheVariants.{MemoryBroken, TableUnknown, TooManyFilterWords, EmptyKey, ImageTooLong}
use Rattle.model.specs.Builder.{Builder}
use Rattle.build_memory.specs.Memory.{Memory, memory, least_words, fresh_words, fresh_start}
use Rattle.build_memory.specs.Answer.{started_number}
use Rattle.build_tables.specs.Table as tables
use Rattle.write_numbers.specs.Roster.{state_of}
use Rattle.build_tables.specs.Table.{free_standing}
use Rattle.write.specs.Write.{has_empty, too_long, image_for, write_answer, laid_by, image_after}
use Rattle.history.specs.Honest.{Honest}
use Rattle.history.specs.Reached.{Reached}
use Rattle.history.proofs.History.{reached_honest, honest_whole}
use Rattle.history.proofs.ModelCalls.{free_standing_same, value_alike, table_alike, count_alike, fresh_alike}
use Rattle.history.proofs.ModelNesting.{nest_alike}
use Rattle.answers.specs.Manner.{form_of}
use Rattle.demands.specs.Calls.{Call, Does, Starts, Event, History}
use Rattle.demands.specs.Model.{tables_of, image_in, write, added, inserted, counted, written, says, makes, lays, built, CallsAreTheModels}
use Rattle.demands.specs.Means.{meant, MemoryMeansTheBuilder}
use Rattle.demands.proofs.Contracts.{answers, leaves, leaves_lent, does_is, starts_is}

-- ---- one call on honest memory

module _ (m : Memory) (honest : Honest m.words m.arena) where
  write_same : (rule : ℕ → ℕ) (filter t room : ℕ) → write_answer rule filter m.words m.arena t room ≡ write rule filter (meant m) t room
  unfolding write_answer write image_for image_in state_of free_standing
  write_same rule filter t room =
      let size = length (image_in rule filter (meant m) t) in
      let named : Result Image Refusal =
      pick (ltb most_filter filter) (Err TooManyFilterWords)
      (pick (has_empty (tables_of (meant m)) deepest t) (Err EmptyKey)
      (pick (too_long room size) (Err ImageTooLong) (Ok (record { start = header_size; end = header_size + chunk_size filter (length (tables_of (meant m) t).members); length = size })))) in
      pick_true (pick (free_standing m.words t) named (Err TableUnknown)) (Err MemoryBroken) (honest_whole m.words m.arena honest)
      ∙ ap (λ (b : Bool). pick b named (Err TableUnknown)) (free_standing_same m.words m.arena t)

  says_same : (call : Call) → answers m call ≡ says (meant m) call
  unfolding answers says
  says_same (Call.new_table separator) = ap added (table_alike m.words m.arena separator honest).answer
  says_same (Call.insert_value t key value) = ap inserted (value_alike m.words m.arena honest t key value).answer
  says_same (Call.insert_table t key guest) = ap inserted (nest_alike m.words m.arena honest t key guest).answer
  says_same (Call.item_count t) = ap counted (count_alike m.words m.arena honest t)
  says_same (Call.write t buffer manner filter) = ap written (write_same (rule_of (form_of manner)) filter t (length buffer))

  makes_same : (call : Call) → meant (leaves m call) ≡ makes (meant m) call
  unfolding leaves makes
  makes_same (Call.new_table separator) = (table_alike m.words m.arena separator honest).after
  makes_same (Call.insert_value t key value) = (value_alike m.words m.arena honest t key value).after
  makes_same (Call.insert_table t key guest) = (nest_alike m.words m.arena honest t key guest).after
  makes_same (Call.item_count t) = refl
  makes_same (Call.write t buffer manner filter) = refl

  lays_same : (call : Call) → leaves_lent m call ≡ lays (meant m) call
  unfolding leaves_lent lays image_after image_for image_in state_of
  lays_same (Call.new_table separator) = refl
  lays_same (Call.insert_value t key value) = refl
  lays_same (Call.insert_table t key guest) = refl
  lays_same (Call.item_count t) = refl
  lays_same (Call.write t buffer manner filter) = ap (λ (answer : Result Image Refusal). laid_by answer (image_for (rule_of (form_of manner)) filter m.words m.arena t) buffer) (write_same (rule_of (form_of manner)) filter t (length buffer))

-- ---- all calls

-- a fresh start that is accepted
fresh_by : (m : Memory) (b : Bool) → leb least_words (length m.words) ≡ b → 0 ≡ started_number (fresh_start m.words m.arena).answer
    → (least_words ≤ length m.words) × ((fresh_start m.words m.arena).after ≡ memory (fresh_words m.words (length m.arena)) m.arena)
unfolding fresh_start started_number pick
fresh_by m true e n = (leb-true _ _ e, rw e refl)
fresh_by m false e n = absurd (let z : ◌≡◌ {A = ℕ} 0 29 = rw e at n in omega arith)

leaves_reached : (m : Memory) (call : Call) → Reached m.words m.arena → Reached (leaves m call).words (leaves m call).arena
unfolding leaves
leaves_reached m (Call.new_table separator) r = Reached.new_table _ _ r separator
leaves_reached m (Call.insert_value t key value) r = Reached.insert_value _ _ r t key value
leaves_reached m (Call.insert_table t key guest) r = Reached.insert_table _ _ r t key guest
leaves_reached m (Call.item_count t) r = r
leaves_reached m (Call.write t buffer manner filter) r = r

-- what a history leaves: memory that calls reach, and that means the builder
pub record Stands (room : ℕ) (events : List Event) (m : Memory) : Type 0 where
  pub reached : Reached m.words m.arena
  pub means : meant m ≡ built room events

stands_start : (before after : Memory) → Starts before 0 after → Stands (length after.arena) [] after
unfolding built
stands_start before after s =
    let is = starts_is before 0 after s in
    let (long, now-is) = fresh_by before (leb least_words (length before.words)) refl is.0 in
    subst (λ (m : Memory). Stands (length m.arena) [] m) (sym (is.1 ∙ now-is))
    (record { reached = Reached.fresh before.words before.arena long; means = fresh_alike before.words before.arena long })

pub stands : (room : ℕ) (events : List Event) (m : Memory) → History room events m → Stands room events m
unfolding built
stands room events m (History.start before after s) = stands_start before after s
stands room events m (History.then r earlier before h call said after left d) =
    let was = stands r earlier before h in
    subst (Stands r _) (sym (does_is before call said after left d).memory)
    (record {
      reached = leaves_reached before call was.reached;
      means = makes_same before (reached_honest _ _ was.reached) call ∙ ap (λ (b : Builder). makes b call) was.means;
    })

pub memory_means_the_builder : MemoryMeansTheBuilder
memory_means_the_builder room events m h = (stands room events m h).means

pub calls_are_the_models : CallsAreTheModels
calls_are_the_models room events m h call said after left d =
    let was = stands room events m h in
    let honest = reached_honest _ _ was.reached in
    let did = does_is m call said after left d in
    (did.answer ∙ says_same m honest call ∙ ap (λ (b : Builder). says b call) was.means, did.lent ∙ lays_same m honest call ∙ ap (λ (b : Builder). lays b call) was.means)
