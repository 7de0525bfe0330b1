-- A joined key is UTF-8, since its fragments are: so lookup of it never answers 8.
use Rattle.std.specs.Prelude.{Result, Ok, Err, Option, Some, None}
use Prim.Native.Nat.{ℕ, zero, suc}
use mathlib.Core.Path.{◌≡◌}
use mathlib.Core.List.{List}
use mathlib.Core.Bool.{true}
use native.Mathlib.Omega.{arith}
use Rattle.words.specs.Choice.{pick}
use Rattle.text.specs.Utf8.{is_utf8}
use Rattle.text.proofs.Utf8Parts.{utf8_append}
use Rattle.layout.specs.declared.refusal.Refusal.{Refusal}
use Rattle.layout.specs.declared.table.Table.{Table}
use Rattle.layout.specs.Item.{item_at}
use Rattle.read_chain.specs.Chain.{fragment_of, climb_from, Joined, append, join_step, key_of}
use Rattle.read_find.specs.Find.{Manner, find_item}
use Rattle.read_chain.proofs.ChainLaws.{climb_or}
use Rattle.check_hash.specs.Key.{bytes_of}
use Rattle.check_rules.specs.Rules.{is_joined, sought_at, index_of}

unfoldable KeyText : Joined → Type 0
KeyText (Joined.joined k) = is_utf8 k ≡ true
KeyText (Joined.broken why) = Unit

append_text : (j : Joined) (fragment : List ℕ) → KeyText j → is_utf8 fragment ≡ true → KeyText (append j fragment)
unfolding KeyText append
append_text (Joined.joined k) fragment text more = utf8_append k fragment text more
append_text (Joined.broken why) fragment text more = tt

-- a step that is not refused stands on a fragment that is UTF-8
join_text : (s : Result (Option ℕ) Refusal) (fragment : List ℕ) (key_at : ℕ → Joined) → (((why : Refusal) → s ≡ Err why → ⊥) → is_utf8 fragment ≡ true)
    → ((parent : ℕ) → KeyText (key_at parent)) → KeyText (join_step s fragment key_at)
unfolding KeyText join_step
join_text (Ok None) fragment key_at text above = text (λ why e. let z : ◌≡◌ {A = ℕ} 0 1 = cc in omega arith)
join_text (Ok (Some parent)) fragment key_at text above = append_text (key_at parent) fragment (above parent) (text (λ why e. let z : ◌≡◌ {A = ℕ} 0 1 = cc in omega arith))
join_text (Err why) fragment key_at text above = tt

key_text : (file : List ℕ) (t : Table) (steps index : ℕ) → KeyText (key_of file t steps index)
unfolding KeyText key_of
key_text file t zero index = tt
key_text file t (suc steps) index =
    join_text (climb_from file t.count (item_at file t index)) (fragment_of file (item_at file t index)) (λ parent. key_of file t steps parent)
    (λ sure. (climb_or file t.count (item_at file t index) sure).text) (λ parent. key_text file t steps parent)

sought_text : (manner : Manner) (file : List ℕ) (t : Table) (j : Joined) → KeyText j → is_joined j ≡ true → sought_at manner file t j ≡ find_item manner file t (bytes_of j)
unfolding KeyText sought_at index_of bytes_of is_joined pick
sought_text manner file t (Joined.joined k) text e = rw text
sought_text manner file t (Joined.broken why) text e = cc

pub sought_joined : (manner : Manner) (file : List ℕ) (t : Table) (steps index : ℕ) → is_joined (key_of file t steps index) ≡ true
    → sought_at manner file t (key_of file t steps index) ≡ find_item manner file t (bytes_of (key_of file t steps index))
sought_joined manner file t steps index e = sought_text manner file t (key_of file t steps index) (key_text file t steps index) e
