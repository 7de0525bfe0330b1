-- An item's joined key: its bytes where it is measured, and the loop that tallies its hash and length.
use Rattle.std.specs.Prelude.{Result, Ok, Err, Option, Some, None}
use Rattle.check_hash.specs.declared.tally.JoinedKey.{JoinedKey}
use Rattle.std.proofs.Common.{◌≡◌, ℕ, ◌+◌, ◌-◌, ◌*◌, ◌<◌, ◌≤◌, true, List, ◌++◌, length, sym, refl, ap, ◌∙◌, subst, add-zero, arith, length-append}
use Rattle.std.specs.Result.{result_ok}
use Rattle.key_hash.specs.Hash.{hash_by}
use Rattle.key_order.proofs.CompareLaws.{same_refl}
use Rattle.layout.specs.declared.refusal.Refusal.{Refusal}
use Rattle.layout.specs.declared.table.Table.{Table}
use Rattle.layout.specs.declared.item.Item.{Item}
use Rattle.layout.specs.Item.{item_at}
use Rattle.read_chain.specs.Chain.{Joined, append, join_step, key_of, climb_from, fragment_of, names}
use Rattle.read_listing.specs.Listing.{measure}
use Rattle.read_chain.proofs.ChainLaws.{StepFits, climb_fits, key_turn, key_over, fragment_size}
use Rattle.check_hash.specs.declared.tally.Tally.{Tally}
use Rattle.check_hash.specs.Tally.{prepend, finish, none}
use Rattle.check_hash.specs.Key.{bytes_of, joined_key}
use Rattle.check_hash.proofs.TallyLaws.{hash_back, prepend-append}

-- ---- a key that is measured

pub sized_bytes : (j : Joined) {size : ℕ} → measure j ≡ Ok size → length (bytes_of j) ≡ size
unfolding measure bytes_of
sized_bytes (Joined.joined k) e = cc
sized_bytes (Joined.broken why) e = cc

names-joined : (j : Joined) {size : ℕ} → measure j ≡ Ok size → true ≡ names j (bytes_of j)
unfolding measure bytes_of names
names-joined (Joined.joined k) e = sym (same_refl k)
names-joined (Joined.broken why) e = cc

-- an item's chain names its joined key
pub names_at : (file : List ℕ) (t : Table) {at index size : ℕ} → at ≡ index → measure (key_of file t t.count index) ≡ Ok size
    → true ≡ names (key_of file t t.count at) (bytes_of (key_of file t t.count index))
names_at file t {at} {index} same e =
    names-joined (key_of file t t.count index) e
    ∙ ap (λ (n : ℕ). names (key_of file t t.count n) (bytes_of (key_of file t t.count index))) (sym same)

-- what the tallied key tells: its length and its hash
pub joined_sized : (rule : ℕ → ℕ) (j : Joined) {hash size : ℕ} → joined_key rule j ≡ Some (record { hash = hash; size = size }) → measure j ≡ Ok size
unfolding joined_key measure
joined_sized rule (Joined.joined k) {hash} {size} e =
    let same : ◌≡◌ {A = JoinedKey} (record { hash = hash; size = size }) (record { hash = hash_by rule k; size = length k }) = cc in
    ap Ok (sym (ap (λ (j : JoinedKey). j.size) same))
joined_sized rule (Joined.broken why) e = cc

pub joined_hashed : (rule : ℕ → ℕ) (j : Joined) {hash size : ℕ} → joined_key rule j ≡ Some (record { hash = hash; size = size }) → hash ≡ hash_by rule (bytes_of j)
unfolding joined_key bytes_of
joined_hashed rule (Joined.joined k) {hash} {size} e =
    let same : ◌≡◌ {A = JoinedKey} (record { hash = hash; size = size }) (record { hash = hash_by rule k; size = length k }) = cc in
    ap (λ (j : JoinedKey). j.hash) same
joined_hashed rule (Joined.broken why) e = cc

-- ---- what a step that is turned into an option was; a fragment whose step is not refused lies in the file

pub step_some : (r : Result (Option ℕ) Refusal) {s : Option (Option ℕ)} {step : Option ℕ} → s ≡ result_ok r → s ≡ Some step → r ≡ Ok step
step_some (Ok x) e is = cc
step_some (Err why) {s} {step} e is = let z : ◌≡◌ {A = ℕ} 0 1 = cc in absurd (omega arith)

step_none : (r : Result (Option ℕ) Refusal) {s : Option (Option ℕ)} → s ≡ result_ok r → s ≡ None → (why : Refusal) × (r ≡ Err why)
step_none (Ok x) e is = let z : ◌≡◌ {A = ℕ} 0 1 = cc in absurd (omega arith)
step_none (Err why) e is = (why, refl)

pub step_inside : (file : List ℕ) (count : ℕ) (item : Item) {step : Option ℕ} → climb_from file count item ≡ Ok step → item.key + item.size ≤ length file
unfolding StepFits
step_inside file count item {step} e = by step (subst (StepFits file count item) e (climb_fits file count item))
  where
    by : (step : Option ℕ) → StepFits file count item (Ok step) → item.key + item.size ≤ length file
    by None fits = fits
    by (Some parent) fits = fits.0

-- ---- the loop: what the key of the present item gives with the tally of what was passed is what the whole key gives

unfoldable pub joined_from : (ℕ → ℕ) → ℕ → Tally → Joined → Option JoinedKey
joined_from rule total tally (Joined.joined k) = Some (record { hash = finish (prepend rule k tally); size = length k + total })
joined_from rule total tally (Joined.broken why) = None

joined-from-none : (rule : ℕ → ℕ) (j : Joined) → joined_from rule 0 none j ≡ joined_key rule j
unfolding joined_from joined_key
joined-from-none rule (Joined.joined k) =
    let hashed = hash_back rule k in
    let long : length k + 0 ≡ length k = add-zero (length k) in
    cc
joined-from-none rule (Joined.broken why) = refl

joined-append : (rule : ℕ → ℕ) (total : ℕ) (tally : Tally) (j : Joined) (f : List ℕ)
    → joined_from rule total tally (append j f) ≡ joined_from rule (total + length f) (prepend rule f tally) j
unfolding joined_from append
joined-append rule total tally (Joined.joined k) f =
    let long : length (k ++ f) + total ≡ length k + (total + length f) = omega (arith, length-append k f) in
    let tallied = prepend-append rule k f tally in
    cc
joined-append rule total tally (Joined.broken why) f = refl

pub record Tallying (rule : ℕ → ℕ) (file : List ℕ) (t : Table) (index at total : ℕ) (tally : Tally) (left : ℕ) : Type 0 where
  pub below : at < t.count
  pub few : left ≤ t.count
  pub small : total ≤ 65535 * (t.count - left)
  pub same : joined_from rule total tally (key_of file t left at) ≡ joined_key rule (key_of file t t.count index)

module _ (rule : ℕ → ℕ) (file : List ℕ) (t : Table) (index : ℕ) where
  pub joined-start : index < t.count → Tallying rule file t index index 0 none t.count
  joined-start h = record { below = h; few = omega arith; small = omega arith; same = joined-from-none rule _ }

  module _ {at total left : ℕ} {tally : Tally} (i : Tallying rule file t index at total tally left) where
    pub joined_over : left ≤ 0 → None ≡ joined_key rule (key_of file t t.count index)
    unfolding joined_from
    joined_over h = sym (ap (joined_from rule total tally) (key_over file t left at h)) ∙ i.same

    module _ (h : 0 < left) {item : Item} (is : item ≡ item_at file t at) where
      pub joined-refused : {s : Option (Option ℕ)} → s ≡ result_ok (climb_from file t.count item) → s ≡ None → None ≡ joined_key rule (key_of file t t.count index)
      unfolding joined_from join_step
      joined-refused o none = let (why, e) = step_none _ o none in sym (ap (joined_from rule total tally) (key_turn file t left at item _ h is e)) ∙ i.same

      module _ {size : ℕ} (z : size ≡ item.size) {next : Tally} (n : next ≡ prepend rule (fragment_of file item) tally) where
        pub joined_root : climb_from file t.count item ≡ Ok None → {hash : ℕ} → hash ≡ finish next → Some (record { hash = hash; size = total + size }) ≡ joined_key rule (key_of file t t.count index)
        unfolding joined_from join_step StepFits
        joined_root e {hash} hashed =
            let fits : item.key + item.size ≤ length file = subst (StepFits file t.count item) e (climb_fits file t.count item) in
            let sum : total + size ≡ length (fragment_of file item) + total = omega (arith, fragment_size file item fits) in
            let whole : hash ≡ finish (prepend rule (fragment_of file item) tally) = hashed ∙ ap finish n in
            ap (λ (s : ℕ). Some (record { hash = hash; size = s })) sum ∙ ap (λ (x : ℕ). Some (record { hash = x; size = length (fragment_of file item) + total })) whole
            ∙ sym (ap (joined_from rule total tally) (key_turn file t left at item _ h is e)) ∙ i.same

        pub joined_up : size < 65536 → {parent : ℕ} → climb_from file t.count item ≡ Ok (Some parent) → Tallying rule file t index parent (total + size) next (left - 1)
        unfolding join_step StepFits
        joined_up short {parent} e =
            let fits : (item.key + item.size ≤ length file) × (parent < t.count) = subst (StepFits file t.count item) e (climb_fits file t.count item) in
            let sum : total + size ≡ total + length (fragment_of file item) = omega (arith, fragment_size file item fits.0) in
            record {
              below = fits.1;
              few = omega (arith, i.few);
              small = omega (arith, i.small, i.few);
              same =
                  ap (λ (s : Tally). joined_from rule (total + size) s (key_of file t (left - 1) parent)) n
                  ∙ ap (λ (m : ℕ). joined_from rule m (prepend rule (fragment_of file item) tally) (key_of file t (left - 1) parent)) sum
                  ∙ sym (ap (joined_from rule total tally) (key_turn file t left at item _ h is e) ∙ joined-append rule total tally (key_of file t (left - 1) parent) (fragment_of file item))
                  ∙ i.same;
            }
