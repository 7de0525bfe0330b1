-- Runs of ranks and their indices bucket by bucket, over the hashes of the ranks: each rank has one index, which lies in the run of
-- its bucket, and runs read in descending order.
use mathlib.Core.Path.{◌≡◌, refl, sym, ap, ◌∙◌, subst}
use mathlib.Core.Logic.{⊎_elim}
use mathlib.Core.Bool.{Bool, true, false}
use mathlib.Core.List.{List, [], ◌∷◌, ◌++◌, append_assoc, append-nil}
use Prim.Native.Nat.{ℕ, zero, suc, ◌+◌, ◌-◌, ◌≤◌, ◌<◌}
use native.Mathlib.Nat.{mod-lt, eq-or-lt_of_le, le_of_suc-le-suc}
use native.Mathlib.Omega.{arith}
use lib.Dec.{eqb}
use borrow.Author.Tests.{eq-eqb, ne_eqb, eqb-true, eqb-false, lt-ltb, le-ltb}
use lib.ListN.{length, get_or, length-append, get_or-append}
use lib.Seq.{get_or-append-add}
use Rattle.words.specs.Choice.{pick}
use Rattle.model.specs.Table.{times}
use Rattle.image.specs.Index.{bucket_of, run, runs_below, by_bucket, bucket_start}
use Rattle.image.specs.Indexing.{Each, InRun, InBucket, ranks_before}
use Rattle.words.proofs.ChoiceLaws.{eq_or_ne, lt_or_ge}
use Rattle.image.proofs.TimesLaws.{times_none, times_here, times_there, times-append, each_once}

module _ (hashes : List ℕ) where
  -- ---- one run: ranks are put into their bucket in ascending order, each at the front

  pub run_none : (b : ℕ) → run hashes b 0 ≡ []
  unfolding run
  run_none b = refl

  run_hit : (b k : ℕ) → bucket_of hashes k ≡ b → run hashes b (suc k) ≡ k ∷ run hashes b k
  unfolding run pick
  run_hit b k e = rw (eq-eqb (bucket_of hashes k) b e)

  pub run_miss : (b k : ℕ) → (bucket_of hashes k ≡ b → ⊥) → run hashes b (suc k) ≡ run hashes b k
  unfolding run pick
  run_miss b k n = rw (ne_eqb (bucket_of hashes k) b n)

  -- what holds either way
  pub run_cases : (P : List ℕ → Type 0) (b k : ℕ) → (bucket_of hashes k ≡ b → P (k ∷ run hashes b k)) → ((bucket_of hashes k ≡ b → ⊥) → P (run hashes b k))
      → P (run hashes b (suc k))
  run_cases P b k hit miss = by (eqb (bucket_of hashes k) b) refl
    where
      by : (t : Bool) → eqb (bucket_of hashes k) b ≡ t → P (run hashes b (suc k))
      by true e = let h = eqb-true (bucket_of hashes k) b e in rw (run_hit b k h) (hit h)
      by false e = let n = eqb-false (bucket_of hashes k) b e in rw (run_miss b k n) (miss n)

  -- a rank that is not put yet is not in a run
  pub run_above : (b k p : ℕ) → k ≤ p → times p (run hashes b k) ≡ 0
  run_above b zero p h = ap (times p) (run_none b) ∙ times_none p
  run_above b (suc k) p h =
      run_cases (λ l. times p l ≡ 0) b k
      (λ _. times_there p k (run hashes b k) (λ q. omega arith) ∙ run_above b k p (omega arith))
      (λ _. run_above b k p (omega arith))

  -- nor is a rank of another bucket
  pub run_other : (b k x : ℕ) → (bucket_of hashes x ≡ b → ⊥) → times x (run hashes b k) ≡ 0
  run_other b zero x n = ap (times x) (run_none b) ∙ times_none x
  run_other b (suc k) x n =
      run_cases (λ l. times x l ≡ 0) b k
      (λ e. times_there x k (run hashes b k) (λ q. n (rw q at e)) ∙ run_other b k x n)
      (λ _. run_other b k x n)

  -- a rank of the bucket stands there once
  pub times-run : (x k : ℕ) → x < k → times x (run hashes (bucket_of hashes x) k) ≡ 1
  times-run x zero h = absurd (omega arith)
  times-run x (suc k) h =
      ⊎_elim
      (λ e. rw (run_hit (bucket_of hashes x) k (ap (bucket_of hashes) (sym e)))
      (omega (arith, times_here x k (run hashes (bucket_of hashes x) k) (sym e), run_above (bucket_of hashes x) k x (omega arith))))
      (λ l. ⊎_elim
      (λ e. rw (run_hit (bucket_of hashes x) k e) (times_there x k (run hashes (bucket_of hashes x) k) (λ q. omega arith) ∙ times-run x k l))
      (λ n. rw (run_miss (bucket_of hashes x) k n) (times-run x k l))
      (eq_or_ne (bucket_of hashes k) (bucket_of hashes x)))
      (eq-or-lt_of_le (le_of_suc-le-suc h))

  pub run_once : (b k x : ℕ) → times x (run hashes b k) ≤ 1
  run_once b k x =
      ⊎_elim
      (λ l. ⊎_elim (λ e. rw (← e) (omega (arith, times-run x k l))) (λ n. omega (arith, run_other b k x n)) (eq_or_ne (bucket_of hashes x) b))
      (λ g. omega (arith, run_above b k x g))
      (lt_or_ge x k)

  run_front : (b k : ℕ) (l : List ℕ) (m : ℕ) → bucket_of hashes k ≡ b → ((j : ℕ) → j < length l → InRun hashes b k (get_or l j 0))
      → m < suc (length l) → InRun hashes b (suc k) (get_or (k ∷ l) m 0)
  run_front b k l zero e rest h = record { below = omega arith; same = e }
  run_front b k l (suc m) e rest h = let r = rest m (omega arith) in record { below = omega (arith, r.below); same = r.same }

  -- what stands in a run is a rank below the bound and of the bucket
  pub run_of : (b k m : ℕ) → m < length (run hashes b k) → InRun hashes b k (get_or (run hashes b k) m 0)
  unfolding run
  run_of b zero m h = absurd (omega arith)
  run_of b (suc k) m h =
      ⊎_elim
      (λ e. rw (run_hit b k e) (run_front b k (run hashes b k) m e (λ j l. run_of b k j l) (rw (run_hit b k e) at h)))
      (λ n. rw (run_miss b k n) (let r = run_of b k m (rw (run_miss b k n) at h) in record { below = omega (arith, r.below); same = r.same }))
      (eq_or_ne (bucket_of hashes k) b)

  -- a run reads in descending order of ranks
  descends_front : (k : ℕ) (l : List ℕ) (i j : ℕ) → ((m : ℕ) → m < length l → get_or l m 0 < k)
      → ((a c : ℕ) → a < c → c < length l → get_or l c 0 < get_or l a 0) → i < j → j < suc (length l) → get_or (k ∷ l) j 0 < get_or (k ∷ l) i 0
  descends_front k l i zero below rest less h = absurd (omega arith)
  descends_front k l zero (suc j) below rest less h = below j (omega arith)
  descends_front k l (suc i) (suc j) below rest less h = rest i j (omega arith) (omega arith)

  pub run_descends : (b k i j : ℕ) → i < j → j < length (run hashes b k) → get_or (run hashes b k) j 0 < get_or (run hashes b k) i 0
  unfolding run
  run_descends b zero i j less h = absurd (omega arith)
  run_descends b (suc k) i j less h =
      ⊎_elim
      (λ e. rw (run_hit b k e)
      (descends_front k (run hashes b k) i j (λ m l. (run_of b k m l).below) (λ a c p q. run_descends b k a c p q) less (rw (run_hit b k e) at h)))
      (λ n. rw (run_miss b k n) (run_descends b k i j less (rw (run_miss b k n) at h)))
      (eq_or_ne (bucket_of hashes k) b)

  -- ---- the runs, one behind the other

  pub bucket_within : (p : ℕ) → p < length hashes → bucket_of hashes p < length hashes
  unfolding bucket_of
  bucket_within p h = mod-lt _ (omega arith)

  times-before : (x b : ℕ) → b ≤ bucket_of hashes x → times x (runs_below hashes b) ≡ 0
  unfolding runs_below times
  times-before x zero h = refl
  times-before x (suc b) h =
      times-append x (runs_below hashes b) (run hashes b (length hashes))
      ∙ omega (arith, times-before x b (omega arith), run_other b (length hashes) x (λ e. omega arith))

  times_after : (x b : ℕ) → x < length hashes → bucket_of hashes x < b → times x (runs_below hashes b) ≡ 1
  unfolding runs_below
  times_after x zero i h = absurd (omega arith)
  times_after x (suc b) i h =
      times-append x (runs_below hashes b) (run hashes b (length hashes))
      ∙ ⊎_elim
      (λ e. omega (arith, times-before x b (omega arith), rw e at (times-run x (length hashes) i)))
      (λ l. omega (arith, times_after x b i l, run_other b (length hashes) x (λ e. omega arith)))
      (eq-or-lt_of_le (le_of_suc-le-suc h))

  -- each rank has exactly one index
  pub indexed_once : (x : ℕ) → x < length hashes → times x (by_bucket hashes) ≡ 1
  unfolding by_bucket
  indexed_once x h = times_after x (length hashes) h (bucket_within x h)

  -- ---- a bucket's word

  pub start-zero : bucket_start hashes 0 ≡ 0
  unfolding bucket_start runs_below
  start-zero = refl

  pub start-suc : (b : ℕ) → bucket_start hashes (suc b) ≡ bucket_start hashes b + length (run hashes b (length hashes))
  unfolding bucket_start runs_below
  start-suc b = length-append (runs_below hashes b) (run hashes b (length hashes))

  -- the ranks of the runs of the buckets before b, counted rank by rank
  tally : ℕ → ℕ → ℕ
  tally zero k = 0
  tally (suc b) k = tally b k + length (run hashes b k)

  tally_none : (b : ℕ) → tally b 0 ≡ 0
  unfolding tally run
  tally_none zero = refl
  tally_none (suc b) = omega (arith, tally_none b)

  tally_miss : (b k : ℕ) → b ≤ bucket_of hashes k → tally b (suc k) ≡ tally b k
  unfolding tally
  tally_miss zero k h = refl
  tally_miss (suc b) k h = omega (arith, tally_miss b k (omega arith), ap length (run_miss b k (λ e. omega arith)))

  tally_hit : (b k : ℕ) → bucket_of hashes k < b → tally b (suc k) ≡ suc (tally b k)
  unfolding tally
  tally_hit zero k h = absurd (omega arith)
  tally_hit (suc b) k h =
      ⊎_elim
      (λ e. omega (arith, tally_miss b k (omega arith), ap length (run_hit b k e)))
      (λ l. omega (arith, tally_hit b k l, ap length (run_miss b k (λ e. omega arith))))
      (eq-or-lt_of_le (le_of_suc-le-suc h))

  tally_counts : (b k : ℕ) → tally b k ≡ ranks_before hashes b k
  unfolding ranks_before pick
  tally_counts b zero = tally_none b
  tally_counts b (suc k) =
      ⊎_elim
      (λ l. rw (lt-ltb (bucket_of hashes k) b l) (tally_hit b k l ∙ ap suc (tally_counts b k)))
      (λ g. rw (le-ltb (bucket_of hashes k) b g) (tally_miss b k g ∙ tally_counts b k))
      (lt_or_ge (bucket_of hashes k) b)

  start_tally : (b : ℕ) → bucket_start hashes b ≡ tally b (length hashes)
  unfolding tally
  start_tally zero = start-zero
  start_tally (suc b) = omega (arith, start-suc b, start_tally b)

  -- it is the count of the items in the buckets before it
  pub start_counts : (b : ℕ) → bucket_start hashes b ≡ ranks_before hashes b (length hashes)
  start_counts b = start_tally b ∙ tally_counts b (length hashes)

  tally_most : (b k : ℕ) → tally b k ≤ k
  tally_most b zero = omega (arith, tally_none b)
  tally_most b (suc k) =
      ⊎_elim (λ l. omega (arith, tally_hit b k l, tally_most b k)) (λ g. omega (arith, tally_miss b k g, tally_most b k)) (lt_or_ge (bucket_of hashes k) b)

  tally_all : (b k : ℕ) → ((p : ℕ) → p < k → bucket_of hashes p < b) → tally b k ≡ k
  tally_all b zero h = tally_none b
  tally_all b (suc k) h = omega (arith, tally_hit b k (h k (omega arith)), tally_all b k (λ p l. h p (omega arith)))

  -- it is at most the count of all, and past the last bucket it is that
  pub start-most : (b : ℕ) → bucket_start hashes b ≤ length hashes
  start-most b = omega (arith, start_tally b, tally_most b (length hashes))

  pub start-all : bucket_start hashes (length hashes) ≡ length hashes
  start-all = start_tally (length hashes) ∙ tally_all (length hashes) (length hashes) bucket_within

  -- as many indices as items
  pub length_indexed : length (by_bucket hashes) ≡ length hashes
  unfolding by_bucket bucket_start
  length_indexed = start-all

  -- ---- the indices of a bucket

  record Split (b d : ℕ) : Type 0 where
    rest : List ℕ
    is : runs_below hashes d ≡ runs_below hashes b ++ (run hashes b (length hashes) ++ rest)

  split : (b d : ℕ) → b < d → Split b d
  unfolding runs_below
  split b zero h = absurd (omega arith)
  split b (suc d) h =
      ⊎_elim
      (λ e. record { rest = []; is = subst (λ (k : ℕ). runs_below hashes (suc d) ≡ runs_below hashes k ++ (run hashes k (length hashes) ++ [])) (sym e) (rw append-nil) })
      (λ l. let s = split b d l in record { rest = s.rest ++ run hashes d (length hashes); is = rw (s.is, append_assoc, append_assoc) })
      (eq-or-lt_of_le (le_of_suc-le-suc h))

  -- the rank at an index of a bucket, by its run
  pub index_at : (b m : ℕ) → b < length hashes → m < length (run hashes b (length hashes)) → get_or (by_bucket hashes) (bucket_start hashes b + m) 0 ≡ get_or (run hashes b (length hashes)) m 0
  unfolding by_bucket bucket_start
  index_at b m h l =
      let s = split b (length hashes) h in
      rw (s.is, get_or-append-add (runs_below hashes b) (run hashes b (length hashes) ++ s.rest) m 0) (get_or-append (run hashes b (length hashes)) s.rest 0 m l)

  bucket_later : (d k x : ℕ) → InBucket hashes d k x → InBucket hashes (suc d) k x
  bucket_later d k x r = record { below = r.below; bucket_below = omega (arith, r.bucket_below); from = r.from; to = r.to }

  bucket_last : (d k x : ℕ) → InRun hashes d (length hashes) x → length (runs_below hashes d) ≤ k → k < length (runs_below hashes (suc d)) → InBucket hashes (suc d) k x
  bucket_last d k x r low high = record { below = r.below; bucket_below = omega (arith, r.same); from = rw r.same low; to = rw r.same high }

  bucket_of_lem : (d k : ℕ) → k < length (runs_below hashes d) → InBucket hashes d k (get_or (runs_below hashes d) k 0)
  unfolding runs_below
  bucket_of_lem zero k h = absurd (omega arith)
  bucket_of_lem (suc d) k h =
      ⊎_elim
      (λ less. rw (get_or-append (runs_below hashes d) (run hashes d (length hashes)) 0 k less) (bucket_later d k _ (bucket_of_lem d k less)))
      (λ ge. let m = k - length (runs_below hashes d) in
      let e : k ≡ length (runs_below hashes d) + m = omega arith in
      let is : get_or (runs_below hashes d ++ run hashes d (length hashes)) k 0 ≡ get_or (run hashes d (length hashes)) m 0 =
      ap (λ (i : ℕ). get_or (runs_below hashes d ++ run hashes d (length hashes)) i 0) e ∙ get_or-append-add (runs_below hashes d) (run hashes d (length hashes)) m 0 in
      let less : m < length (run hashes d (length hashes)) = omega (arith, length-append (runs_below hashes d) (run hashes d (length hashes))) in
      rw is (bucket_last d k (get_or (run hashes d (length hashes)) m 0) (run_of d (length hashes) m less) ge h))
      (lt_or_ge k (length (runs_below hashes d)))

  -- an index lies in the run of its rank's bucket
  pub index_bucket : (k : ℕ) → k < length hashes → InBucket hashes (length hashes) k (get_or (by_bucket hashes) k 0)
  unfolding by_bucket
  index_bucket k l = bucket_of_lem (length hashes) k (omega (arith, length-all))
    where
      length-all : length (runs_below hashes (length hashes)) ≡ length hashes
      length-all = length_indexed

  pub indexed_each : Each (length hashes) (by_bucket hashes)
  indexed_each = each_once (length hashes) (by_bucket hashes) length_indexed indexed_once (λ k l. (index_bucket k l).below)

  -- of two indices of one bucket the later one has the earlier rank
  pub indices_descend : (j k : ℕ) → j < k → k < length hashes → bucket_of hashes (get_or (by_bucket hashes) j 0) ≡ bucket_of hashes (get_or (by_bucket hashes) k 0)
      → get_or (by_bucket hashes) k 0 < get_or (by_bucket hashes) j 0
  unfolding bucket_start
  indices_descend j k less h same =
      let a = index_bucket j (omega arith) in
      let b = index_bucket k h in
      descend (bucket_of hashes (get_or (by_bucket hashes) k 0)) (bucket_within (get_or (by_bucket hashes) k 0) b.below) (rw same at a.from) b.from b.to
    where
      descend : (d : ℕ) → d < length hashes → length (runs_below hashes d) ≤ j → length (runs_below hashes d) ≤ k → k < length (runs_below hashes (suc d))
          → get_or (by_bucket hashes) k 0 < get_or (by_bucket hashes) j 0
      descend d inside low from to =
          let s = length (runs_below hashes d) in
          let size : k - s < length (run hashes d (length hashes)) = omega (arith, start-suc d) in
          let ej : s + (j - s) ≡ j = omega arith in
          let ek : s + (k - s) ≡ k = omega arith in
          let pj : get_or (by_bucket hashes) j 0 ≡ get_or (run hashes d (length hashes)) (j - s) 0 = ap (λ (i : ℕ). get_or (by_bucket hashes) i 0) (sym ej) ∙ index_at d (j - s) inside (omega arith) in
          let pk : get_or (by_bucket hashes) k 0 ≡ get_or (run hashes d (length hashes)) (k - s) 0 = ap (λ (i : ℕ). get_or (by_bucket hashes) i 0) (sym ek) ∙ index_at d (k - s) inside size in
          rw (pj, pk) (run_descends d (length hashes) (j - s) (k - s) (omega arith) size)
