-- The conditions of the statements can be met: a table with an item of each kind, laid and looked up.
use Rattle.std.specs.Prelude.{Ok}
use mathlib.Core.Path.{◌≡◌, refl}
use mathlib.Core.Logic.{⊎_elim}
use mathlib.Core.Bool.{true}
use mathlib.Core.List.{List, [], ◌∷◌}
use Prim.Native.Nat.{ℕ, suc, ◌+◌, ◌≤◌}
use native.Mathlib.Omega.{arith}
use lib.ListN.{length}
use Rattle.words.specs.Choice.{pick}
use Rattle.words.specs.Store.{copies}
use Rattle.words.specs.Field.{spelled}
use Rattle.key_hash.specs.Hash.{hash_from, hash_by, plain}
use Rattle.words.specs.Align.{aligned}
use Rattle.key_order.specs.Order.{precedes}
use Rattle.text.specs.Utf8.{between, tail, is_two, starts_three, starts_four, first_of, sequence_len, step_len, one_more, good_from, first_bad, is_utf8}
use Rattle.read.specs.Lookup.{lookup_value, lookup_table}
use Rattle.read.specs.Answer.{looked_bytes}
use Rattle.read_find.specs.declared.manner.Lookup.{Lookup}
use Rattle.read_find.specs.Find.{rust}
use Rattle.model.specs.Table.{Content, times, Has, entry_at, is_child, fragment_at, members_below, rows_of}
use Rattle.image.specs.Index.{insert_key, sort_keys, key_order, hashes_of, bucket_of, run, runs_below, by_bucket, bucket_start, by_index, item_of, index_in, laid_index}
use Rattle.layout.specs.Sizes.{chunk_size}
use Rattle.image.specs.Plan.{words_of, value_start, item_bytes, payload, place, record_bytes, records, plan_bytes}
use Rattle.image.specs.Image.{children_in, children_of, parent_index, child_words, value_of, covers_of, plan_of, table_bytes, image_of}
use Rattle.image.specs.WellFormed.{ChildFits, WellFormed, Writable}
use Rattle.words.proofs.ChoiceLaws.{eq_or_ne}
use Rattle.image.proofs.TimesLaws.{times_here, times_there, times_none, has_cases}
use Rattle.laid.specs.Told.{Both, AllBack}
use Rattle.laid.specs.Sample.{sample}
use Rattle.laid.specs.Back.{Lay}
use Rattle.laid.proofs.LayLaws.{lay_of}
use Rattle.laid.proofs.ReadBack.{views_bytes}
use Rattle.laid.proofs.ImageBack.{alone_back}

-- what stands in a list of three, of one
three : (P : ℕ → Type 0) → P 0 → P 1 → P 2 → (i : ℕ) → Has (0 ∷ 1 ∷ 2 ∷ []) i → P i
three P a b c i h =
    ⊎_elim (λ e. rw (← e) a)
    (λ h1. ⊎_elim (λ e. rw (← e) b)
    (λ h2. ⊎_elim (λ e. rw (← e) c) (λ h3. absurd (omega (arith, times_none i))) (has_cases 2 i [] h2))
    (has_cases 1 i (2 ∷ []) h1))
    (has_cases 0 i (1 ∷ 2 ∷ []) h)

one : (P : ℕ → Type 0) → P 3 → (i : ℕ) → Has (3 ∷ []) i → P i
one P a i h = ⊎_elim (λ e. rw (← e) a) (λ none. absurd (omega (arith, times_none i))) (has_cases 3 i [] h)

once_cons : (x y : ℕ) (l : List ℕ) → (y ≡ x → times x l ≡ 0) → times x l ≤ 1 → times x (y ∷ l) ≤ 1
once_cons x y l fresh few = ⊎_elim (λ e. omega (arith, times_here x y l e, fresh e)) (λ n. omega (arith, times_there x y l n)) (eq_or_ne y x)

once_three : (i : ℕ) → times i (0 ∷ 1 ∷ 2 ∷ []) ≤ 1
unfolding times pick
once_three i =
    once_cons i 0 (1 ∷ 2 ∷ []) (λ e. rw (← e)) (once_cons i 1 (2 ∷ []) (λ e. rw (← e)) (once_cons i 2 [] (λ e. refl) (omega (arith, times_none i))))

once_one : (i : ℕ) → times i (3 ∷ []) ≤ 1
unfolding times
once_one i = once_cons i 3 [] (λ e. refl) (omega (arith, times_none i))

well_root : WellFormed (sample 0)
unfolding sample times rows_of members_below entry_at is_child index_in pick is_utf8 first_bad good_from one_more step_len sequence_len first_of is_two starts_three starts_four tail between
well_root = record {
  few = omega arith;
  once = once_three;
  short = three (λ i. length ((sample 0).key i) ≤ 1024) (omega arith) (omega arith) (omega arith);
  utf8 = three (λ i. is_utf8 ((sample 0).key i) ≡ true) refl refl refl;
  distinct = λ i j h g. three (λ i. (sample 0).key i ≡ (sample 0).key j → i ≡ j)
      (three (λ j. (sample 0).key 0 ≡ (sample 0).key j → 0 ≡ j) (λ e. refl) (λ e. cc) (λ e. cc) j g)
      (three (λ j. (sample 0).key 1 ≡ (sample 0).key j → 1 ≡ j) (λ e. cc) (λ e. refl) (λ e. cc) j g)
      (three (λ j. (sample 0).key 2 ≡ (sample 0).key j → 2 ≡ j) (λ e. cc) (λ e. cc) (λ e. refl) j g) i h;
  child = three (λ i. is_child (sample 0) i ≡ true → ChildFits (sample 0) i)
      (λ e. let z : ◌≡◌ {A = ℕ} 0 1 = cc in absurd (omega arith))
      (λ e. record { member = omega arith; earlier = omega arith; begins = refl })
      (λ e. let z : ◌≡◌ {A = ℕ} 0 1 = cc in absurd (omega arith));
}

well_inner : WellFormed (sample 1)
unfolding sample rows_of members_below entry_at is_child index_in pick is_utf8 first_bad good_from one_more step_len sequence_len first_of is_two starts_three starts_four tail between
well_inner = record {
  few = omega arith;
  once = once_one;
  short = one (λ i. length ((sample 1).key i) ≤ 1024) (omega arith);
  utf8 = one (λ i. is_utf8 ((sample 1).key i) ≡ true) refl;
  distinct = λ i j h g e. one (λ i. i ≡ j) (one (λ j. 3 ≡ j) refl j g) i h;
  child = one (λ i. is_child (sample 1) i ≡ true → ChildFits (sample 1) i) (λ e. let z : ◌≡◌ {A = ℕ} 0 1 = cc in absurd (omega arith));
}

inner_writable : (d : ℕ) → Writable sample (suc d) 1
unfolding Writable sample rows_of members_below entry_at pick
inner_writable d = (well_inner, λ i u h. one (λ i. (sample 1).content i ≡ Content.nested u → Writable sample d u) (λ e. let z : ◌≡◌ {A = ℕ} 0 1 = cc in absurd (omega arith)) i h)

pub root_writable : Writable sample 8 0
unfolding Writable sample rows_of members_below entry_at pick
root_writable = (
  well_root,
  λ i u h. three (λ i. (sample 0).content i ≡ Content.nested u → Writable sample 7 u)
      (λ e. let z : ◌≡◌ {A = ℕ} 0 1 = cc in absurd (omega arith))
      (λ e. let z : ◌≡◌ {A = ℕ} 0 1 = cc in absurd (omega arith))
      (λ e. let same : 1 ≡ u = cc in rw (← same) (inner_writable 6)) i h,
)

pub size : length (image_of plain 0 sample 0) ≡ 176
unfolding sample pick copies spelled hash_by hash_from aligned precedes entry_at is_child fragment_at members_below rows_of insert_key sort_keys key_order hashes_of bucket_of run runs_below by_bucket bucket_start by_index item_of index_in laid_index words_of chunk_size value_start item_bytes payload place record_bytes records plan_bytes children_in children_of parent_index child_words value_of covers_of plan_of table_bytes image_of
size = refl

abbrev image : List ℕ
image = image_of plain 0 sample 0

-- without filter words
abbrev bare : Lay
bare = lay_of plain Lookup.Rust 0 (omega arith)

all : AllBack bare image sample 8 0 24
all = alone_back bare sample 0 root_writable (omega (arith, size))

-- "a/b" answers 07, "a/" 13 either way, "a" 12
pub value_answers : looked_bytes image (lookup_value rust image 24 116 (97 ∷ 47 ∷ 98 ∷ [])) ≡ 7 ∷ []
unfolding AllBack sample rows_of members_below entry_at times pick chunk_size
value_answers = views_bytes image _ (7 ∷ []) (all.0.values 1 (7 ∷ []) (omega arith) refl)

pub container_answers : Both rust image 24 116 (97 ∷ 47 ∷ []) 13
unfolding AllBack sample rows_of members_below entry_at times pick chunk_size
container_answers = all.0.containers 0 (omega arith) refl

pub absent_answers : Both rust image 24 116 (97 ∷ []) 12
unfolding AllBack sample rows_of members_below entry_at pick chunk_size is_utf8 first_bad good_from one_more step_len sequence_len first_of is_two starts_three starts_four tail between
absent_answers = all.0.absent (97 ∷ []) refl (three (λ i. (sample 0).key i ≡ 97 ∷ [] → ⊥)
    (λ e. let z : ◌≡◌ {A = ℕ} 0 1 = cc in omega arith) (λ e. let z : ◌≡◌ {A = ℕ} 0 1 = cc in omega arith) (λ e. let z : ◌≡◌ {A = ℕ} 116 97 = cc in omega arith))

-- "t" answers a table, and there "x" answers 09
pub nested_answers : (from : ℕ) × (lookup_table rust image 24 116 (116 ∷ []) ≡ Ok (record { start = from; end = from + 36 }))
    × (looked_bytes image (lookup_value rust image from (from + 36) (120 ∷ [])) ≡ 9 ∷ [])
unfolding AllBack sample rows_of members_below entry_at times pick chunk_size
nested_answers =
    let (from, place, there) = all.1 2 1 (omega arith) refl in
    (from, place, views_bytes image _ (9 ∷ []) (there.0.values 3 (9 ∷ []) (omega arith) refl))
