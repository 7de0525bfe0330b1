-- Laws of falling keys: they are the key order turned round, a bucket's items by falling keys are its run, and no item is lost.
use mathlib.Core.Path.{◌≡◌, refl, sym, ap, ◌∙◌}
use mathlib.Core.Logic.{⊎_elim}
use mathlib.Core.Bool.{Bool, true, false}
use mathlib.Core.List.{List, [], ◌∷◌, ◌++◌, map, append_assoc, append-nil}
use Prim.Native.Nat.{ℕ, zero, suc, ◌%◌, ◌≤◌, ◌<◌}
use native.Mathlib.Omega.{arith}
use lib.Dec.{eqb}
use lib.ListN.{length, take, get_or, length-map}
use lib.Seq.{take-suc, take-length}
use borrow.Table.Elements.{map_app}
use Rattle.words.specs.Choice.{pick}
use Rattle.words.proofs.ChoiceLaws.{pick_with, pick_true, clash}
use Rattle.key_order.specs.Order.{precedes}
use Rattle.key_order.proofs.OrderLaws.{transitive}
use Rattle.model.specs.Table.{Rows, times, Has}
use Rattle.image.specs.Index.{insert_key, sort_keys, key_order, bucket_of, run, runs_below, bucket_start}
use Rattle.image.specs.Indexing.{Ascending}
use Rattle.image.proofs.TimesLaws.{times_here, times_there, times_none, times_cons, times-append, has_cases}
use Rattle.image.proofs.OrderLaws.{not-before, sort_ascends, length_order}
use Rattle.image.proofs.IndexLaws.{get_or_made}
use Rattle.write_order.specs.Fall.{put_falling, falling, in_bucket, joined}

module _ (key : ℕ → List ℕ) where
  -- ---- how many items stand, and how often

  -- an item put among others is one item more
  times-put : (x i : ℕ) (l : List ℕ) → times x (put_falling key i l) ≡ times x (i ∷ l)
  unfolding put_falling
  times-put x i [] = refl
  times-put x i (j ∷ l) =
      pick_with (λ (m : List ℕ). times x m ≡ times x (i ∷ j ∷ l)) (precedes (key i) (key j)) (j ∷ put_falling key i l) (i ∷ j ∷ l)
      (λ _. omega (
        arith,
        times-put x i l,
        times-append x (j ∷ []) (put_falling key i l),
        times-append x (i ∷ []) (j ∷ l),
        times-append x (j ∷ []) l,
        times-append x (i ∷ []) l,
      ))
      (λ _. refl)

  length-put : (i : ℕ) (l : List ℕ) → length (put_falling key i l) ≡ suc (length l)
  unfolding put_falling
  length-put i [] = refl
  length-put i (j ∷ l) =
      pick_with (λ (m : List ℕ). length m ≡ suc (suc (length l))) (precedes (key i) (key j)) (j ∷ put_falling key i l) (i ∷ j ∷ l) (λ _. ap suc (length-put i l)) (λ _. refl)

  module _ (test : ℕ → Bool) (items : List ℕ) where
    pub length-falling : (k : ℕ) → length (falling key test items k) ≤ k
    unfolding falling
    length-falling zero = omega arith
    length-falling (suc k) =
        pick_with (λ (m : List ℕ). length m ≤ suc k) (test (get_or items k 0)) (put_falling key (get_or items k 0) (falling key test items k)) (falling key test items k)
        (λ _. omega (arith, length-put (get_or items k 0) (falling key test items k), length-falling k)) (λ _. omega (arith, length-falling k))

    module _ (x : ℕ) where
      -- what the test takes stands as often as before, and what it does not take stands nowhere
      pub times_taken : (k : ℕ) → k ≤ length items → test x ≡ true → times x (falling key test items k) ≡ times x (take k items)
      unfolding falling
      times_taken zero h e = refl
      times_taken (suc k) h e =
          let more = ap (times x) (take-suc items k 0 (omega arith)) ∙ times-append x (take k items) (get_or items k 0 ∷ []) in
          let before = times_taken k (omega arith) e in
          pick_with (λ (m : List ℕ). times x m ≡ times x (take (suc k) items)) (test (get_or items k 0)) (put_falling key (get_or items k 0) (falling key test items k)) (falling key test items k)
          (λ _. times-put x (get_or items k 0) (falling key test items k) ∙ omega (arith, more, before, times-append x (get_or items k 0 ∷ []) (falling key test items k)))
          (λ f. omega (arith, more, before, times_none x, times_there x (get_or items k 0) [] (λ q. clash (sym e ∙ ap test (sym q) ∙ f))))

      pub times_left : (k : ℕ) → test x ≡ false → times x (falling key test items k) ≡ 0
      unfolding falling
      times_left zero e = times_none x
      times_left (suc k) e =
          pick_with (λ (m : List ℕ). times x m ≡ 0) (test (get_or items k 0)) (put_falling key (get_or items k 0) (falling key test items k)) (falling key test items k)
          (λ t. times-put x (get_or items k 0) (falling key test items k) ∙ times_there x (get_or items k 0) (falling key test items k) (λ q. clash (sym t ∙ ap test q ∙ e)) ∙ times_left k e)
          (λ _. times_left k e)

  -- ---- where an item is put

  -- before the last one, if it does not come before that
  put-before : (i x : ℕ) (l : List ℕ) → precedes (key i) (key x) ≡ false → put_falling key i (l ++ (x ∷ [])) ≡ put_falling key i l ++ (x ∷ [])
  unfolding put_falling pick
  put-before i x [] e = rw e
  put-before i x (j ∷ l) e = by (precedes (key i) (key j)) (put-before i x l e)
    where
      by : (t : Bool) → put_falling key i (l ++ (x ∷ [])) ≡ put_falling key i l ++ (x ∷ [])
          → pick t (j ∷ put_falling key i (l ++ (x ∷ []))) (i ∷ j ∷ (l ++ (x ∷ []))) ≡ pick t (j ∷ put_falling key i l) (i ∷ j ∷ l) ++ (x ∷ [])
      by true rest = ap (λ (m : List ℕ). j ∷ m) rest
      by false rest = refl

  -- behind all, if it comes before each
  put_behind : (i : ℕ) (l : List ℕ) → ((y : ℕ) → Has l y → precedes (key i) (key y) ≡ true) → put_falling key i l ≡ l ++ (i ∷ [])
  unfolding put_falling
  put_behind i [] all = refl
  put_behind i (j ∷ l) all =
      pick_true (j ∷ put_falling key i l) (i ∷ j ∷ l) (all j (omega (arith, times_here j j l refl)))
      ∙ ap (λ (m : List ℕ). j ∷ m) (put_behind i l (λ y h. all y (omega (arith, times_cons y j l))))

-- ---- the key order with one item more, which comes last

-- what comes before b comes before all that do not
before_later : (a b c : List ℕ) → precedes a b ≡ true → precedes c b ≡ false → precedes a c ≡ true
before_later a b c p q = by (precedes a c) refl
  where
    by : (t : Bool) → precedes a c ≡ t → precedes a c ≡ true
    by true e = e
    by false e = clash (sym p ∙ not-before b c a q e)

module _ (table : Rows) where
  -- the item put among ascending ones, behind those of its own key
  insert_last : ℕ → List ℕ → List ℕ
  insert_last i [] = i ∷ []
  insert_last i (j ∷ rest) = pick (precedes (table.key i) (table.key j)) (i ∷ j ∷ rest) (j ∷ insert_last i rest)

  last_here : (i j : ℕ) (l : List ℕ) → precedes (table.key i) (table.key j) ≡ true → insert_last i (j ∷ l) ≡ i ∷ j ∷ l
  unfolding insert_last pick
  last_here i j l e = rw e

  last_past : (i j : ℕ) (l : List ℕ) → precedes (table.key i) (table.key j) ≡ false → insert_last i (j ∷ l) ≡ j ∷ insert_last i l
  unfolding insert_last pick
  last_past i j l e = rw e

  first_here : (i j : ℕ) (l : List ℕ) → precedes (table.key j) (table.key i) ≡ false → insert_key table i (j ∷ l) ≡ i ∷ j ∷ l
  unfolding insert_key pick
  first_here i j l e = rw e

  first_past : (i j : ℕ) (l : List ℕ) → precedes (table.key j) (table.key i) ≡ true → insert_key table i (j ∷ l) ≡ j ∷ insert_key table i l
  unfolding insert_key pick
  first_past i j l e = rw e

  -- it does not matter which of two is put in first: y, which comes first of its key, or x, which comes last
  insert_both : (y x : ℕ) (l : List ℕ) → insert_key table y (insert_last x l) ≡ insert_last x (insert_key table y l)
  unfolding insert_key insert_last
  insert_both y x [] = refl
  insert_both y x (z ∷ l) =
      by (precedes (table.key x) (table.key z)) refl (precedes (table.key z) (table.key y)) refl (precedes (table.key x) (table.key y)) refl (insert_both y x l)
    where
      by : (p : Bool) → precedes (table.key x) (table.key z) ≡ p → (q : Bool) → precedes (table.key z) (table.key y) ≡ q → (r : Bool) → precedes (table.key x) (table.key y) ≡ r
          → insert_key table y (insert_last x l) ≡ insert_last x (insert_key table y l) → insert_key table y (insert_last x (z ∷ l)) ≡ insert_last x (insert_key table y (z ∷ l))
      by true p true q true r rest = rw (last_here x z l p, first_past y x (z ∷ l) r, first_past y z l q, last_here x z (insert_key table y l) p)
      by true p true q false r rest = clash (sym (transitive (table.key x) (table.key z) (table.key y) p q) ∙ r)
      by true p false q true r rest = rw (last_here x z l p, first_past y x (z ∷ l) r, first_here y z l q, last_here x y (z ∷ l) r)
      by true p false q false r rest = rw (last_here x z l p, first_here y x (z ∷ l) r, first_here y z l q, last_past x y (z ∷ l) r, last_here x z l p)
      by false p true q r e rest = rw (last_past x z l p, first_past y z (insert_last x l) q, first_past y z l q, last_past x z (insert_key table y l) p, rest)
      by false p false q r e rest =
          rw (last_past x z l p, first_here y z (insert_last x l) q, first_here y z l q, last_past x y (z ∷ l) (not-before (table.key y) (table.key z) (table.key x) q p), last_past x z l p)

  sort_snoc : (l : List ℕ) (x : ℕ) → sort_keys table (l ++ (x ∷ [])) ≡ insert_last x (sort_keys table l)
  unfolding sort_keys insert_key insert_last
  sort_snoc [] x = refl
  sort_snoc (y ∷ l) x = ap (insert_key table y) (sort_snoc l x) ∙ insert_both y x (sort_keys table l)

-- ---- the key order turned round

-- the items that a test takes, from the last to the first
down : (ℕ → Bool) → List ℕ → List ℕ
down test [] = []
down test (x ∷ l) = down test l ++ pick (test x) (x ∷ []) []

module _ (test : ℕ → Bool) where
  down_taken : (x : ℕ) (l : List ℕ) → test x ≡ true → down test (x ∷ l) ≡ down test l ++ (x ∷ [])
  unfolding down pick
  down_taken x l e = rw e

  down_left : (x : ℕ) (l : List ℕ) → test x ≡ false → down test (x ∷ l) ≡ down test l
  unfolding down pick
  down_left x l e = rw e (append-nil (down test l))

  -- nothing is taken that does not stand there
  times_down : (x : ℕ) (l : List ℕ) → times x (down test l) ≤ times x l
  unfolding down
  times_down x [] = omega arith
  times_down x (y ∷ l) =
      pick_with (λ (m : List ℕ). times x (down test l ++ m) ≤ times x (y ∷ l)) (test y) (y ∷ []) []
      (λ _. omega (arith, times_down x l, times-append x (down test l) (y ∷ []), times-append x (y ∷ []) l))
      (λ _. omega (arith, times_down x l, times-append x (down test l) [], times_none x, times_cons x y l))

  -- one item more at the end is the first
  down_snoc : (l : List ℕ) (x : ℕ) → down test (l ++ (x ∷ [])) ≡ pick (test x) (x ∷ []) [] ++ down test l
  unfolding down
  down_snoc [] x = sym (append-nil (pick (test x) (x ∷ []) []))
  down_snoc (y ∷ l) x = rw (down_snoc l x) (append_assoc (pick (test x) (x ∷ []) []) (down test l) (pick (test y) (y ∷ []) []))

module _ (table : Rows) (test : ℕ → Bool) where
  -- one item more in the key order: one that the test does not take, or one that it takes
  last_left : (i : ℕ) (s : List ℕ) → test i ≡ false → down test (insert_last table i s) ≡ down test s
  unfolding insert_last down
  last_left i [] e = down_left test i [] e
  last_left i (x ∷ s) e =
      pick_with (λ (m : List ℕ). down test m ≡ down test (x ∷ s)) (precedes (table.key i) (table.key x)) (i ∷ x ∷ s) (x ∷ insert_last table i s)
      (λ _. down_left test i (x ∷ s) e) (λ _. ap (λ (m : List ℕ). m ++ pick (test x) (x ∷ []) []) (last_left i s e))

  -- an item that does not come before x is put in front of x, if x is taken
  put_on : (i x : ℕ) (l : List ℕ) → precedes (table.key i) (table.key x) ≡ false
      → put_falling table.key i l ++ pick (test x) (x ∷ []) [] ≡ put_falling table.key i (l ++ pick (test x) (x ∷ []) [])
  put_on i x l p =
      pick_with (λ (m : List ℕ). put_falling table.key i l ++ m ≡ put_falling table.key i (l ++ m)) (test x) (x ∷ []) []
      (λ _. sym (put-before table.key i x l p)) (λ _. rw (append-nil (put_falling table.key i l), append-nil l))

  last_taken : (i : ℕ) (s : List ℕ) → Ascending table s → test i ≡ true → down test (insert_last table i s) ≡ put_falling table.key i (down test s)
  unfolding insert_last down put_falling Ascending
  last_taken i [] a e = down_taken test i [] e
  last_taken i (x ∷ s) a e =
      pick_with (λ (m : List ℕ). down test m ≡ put_falling table.key i (down test (x ∷ s)))
      (precedes (table.key i) (table.key x)) (i ∷ x ∷ s) (x ∷ insert_last table i s)
      (λ p. down_taken test i (x ∷ s) e ∙ sym (put_behind table.key i (down test (x ∷ s)) (λ y h. ⊎_elim
      (λ q. rw (← q) p)
      (λ m. before_later (table.key i) (table.key x) (table.key y) p (a.0 y m))
      (has_cases x y s (omega (arith, times_down test y (x ∷ s)))))))
      (λ f. ap (λ (m : List ℕ). m ++ pick (test x) (x ∷ []) []) (last_taken i s a.1 e) ∙ put_on i x (down test s) f)

-- falling keys are the key order turned round
falling_sorted : (table : Rows) (test : ℕ → Bool) (items : List ℕ) (k : ℕ) → k ≤ length items → falling table.key test items k ≡ down test (sort_keys table (take k items))
unfolding falling sort_keys down
falling_sorted table test items zero h = refl
falling_sorted table test items (suc k) h =
    let s = sort_keys table (take k items) in
    let before = falling_sorted table test items k (omega arith) in
    rw (take-suc items k 0 (omega arith), sort_snoc table (take k items) (get_or items k 0))
    (pick_with (λ (m : List ℕ). m ≡ down test (insert_last table (get_or items k 0) s))
    (test (get_or items k 0)) (put_falling table.key (get_or items k 0) (falling table.key test items k)) (falling table.key test items k)
    (λ t. ap (put_falling table.key (get_or items k 0)) before ∙ sym (last_taken table test (get_or items k 0) s (sort_ascends table (take k items)) t))
    (λ f. before ∙ sym (last_left table test (get_or items k 0) s f)))

-- the same for all items of a table
falling_order : (table : Rows) (test : ℕ → Bool) → falling table.key test table.members (length table.members) ≡ down test (key_order table)
unfolding key_order
falling_order table test =
    falling_sorted table test table.members (length table.members) (omega arith) ∙ ap (λ (l : List ℕ). down test (sort_keys table l)) (take-length table.members)

-- ---- the runs of the buckets

module _ (order : List ℕ) (hash : ℕ → ℕ) (b : ℕ) where
  -- the bucket of a rank is that of its item
  bucket_is : (k : ℕ) → k < length order → bucket_of (map hash order) k ≡ hash (get_or order k 0) % length order
  unfolding bucket_of
  bucket_is k h = rw (get_or_made hash order k h, length-map order hash)

  -- the items of a run of the first k ranks
  run_down : (k : ℕ) → k ≤ length order → map (λ (place : ℕ). get_or order place 0) (run (map hash order) b k) ≡ down (in_bucket hash (length order) b) (take k order)
  unfolding run down in_bucket pick
  run_down zero h = refl
  run_down (suc k) h =
      rw (bucket_is k (omega arith), take-suc order k 0 (omega arith))
      (rw (down_snoc (in_bucket hash (length order) b) (take k order) (get_or order k 0), ← (run_down k (omega arith)))
      (by (eqb (hash (get_or order k 0) % length order) b)))
    where
      by : (t : Bool) → map (λ (place : ℕ). get_or order place 0) (pick t (k ∷ run (map hash order) b k) (run (map hash order) b k))
          ≡ pick t (get_or order k 0 ∷ []) [] ++ map (λ (place : ℕ). get_or order place 0) (run (map hash order) b k)
      by true = refl
      by false = refl

-- a bucket's items by falling keys are its run
falling-run : (table : Rows) (hash : ℕ → ℕ) (b : ℕ)
    → falling table.key (in_bucket hash (length table.members) b) table.members (length table.members)
    ≡ map (λ (place : ℕ). get_or (key_order table) place 0) (run (map hash (key_order table)) b (length (map hash (key_order table))))
falling-run table hash b =
    falling_order table (in_bucket hash (length table.members) b)
    ∙ rw (← (length_order table), length-map (key_order table) hash)
    (rw (run_down (key_order table) hash b (length (key_order table)) (omega arith), take-length (key_order table)))

-- all of them, one behind the other
pub joined_runs : (table : Rows) (hash : ℕ → ℕ) (b : ℕ)
    → joined (λ (d : ℕ). falling table.key (in_bucket hash (length table.members) d) table.members (length table.members)) b
    ≡ map (λ (place : ℕ). get_or (key_order table) place 0) (runs_below (map hash (key_order table)) b)
unfolding joined runs_below
joined_runs table hash zero = refl
joined_runs table hash (suc b) =
    rw (joined_runs table hash b, falling-run table hash b)
    (sym (map_app (λ (place : ℕ). get_or (key_order table) place 0) (runs_below (map hash (key_order table)) b)
    (run (map hash (key_order table)) b (length (map hash (key_order table))))))

pub joined-starts : (table : Rows) (hash : ℕ → ℕ) (b : ℕ)
    → length (joined (λ (d : ℕ). falling table.key (in_bucket hash (length table.members) d) table.members (length table.members)) b) ≡ bucket_start (map hash (key_order table)) b
unfolding bucket_start
joined-starts table hash b = ap length (joined_runs table hash b) ∙ length-map (runs_below (map hash (key_order table)) b) (λ (place : ℕ). get_or (key_order table) place 0)
