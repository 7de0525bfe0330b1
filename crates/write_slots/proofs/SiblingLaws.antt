-- The children of an item in order of creation: as the definition has them, and as ranks in buckets by their parent words have them.
use mathlib.Core.Path.{◌≡◌, refl, sym, ap, ◌∙◌}
use mathlib.Core.Bool.{Bool, true, false}
use mathlib.Core.Logic.{⊎_elim}
use mathlib.Core.List.{List, [], ◌∷◌, ◌++◌, map, append-nil}
use Prim.Native.Nat.{ℕ, zero, suc, ◌+◌, ◌-◌, ◌≤◌, ◌<◌}
use native.Mathlib.Nat.{mod-eq_of_lt}
use native.Mathlib.Omega.{arith}
use borrow.Author.Tests.{eq-eqb, ne_eqb}
use lib.Dec.{eqb}
use lib.ListN.{length, get_or, length-map}
use Rattle.words.specs.Choice.{pick}
use Rattle.words.specs.Store.{put_at}
use Rattle.words.proofs.StoreLaws.{length-put, get_put, get_after}
use Rattle.layout.specs.Item.{no_item}
use Rattle.build_memory.specs.Memory.{item_total, item_table, item_parent}
use Rattle.image.specs.Index.{bucket_of, run, by_bucket, bucket_start}
use Rattle.image.specs.Image.{children_in, children_of}
use Rattle.image.proofs.ChildLaws.{children_append, pick-append}
use Rattle.words.proofs.ChoiceLaws.{eq_or_ne, lt_or_ge}
use Rattle.image.proofs.IndexLaws.{get_or_made}
use Rattle.image.proofs.RunLaws.{indexed_each, index_at, start-suc, start-most, start-all, length_indexed}
use Rattle.write_order.specs.Chain.{starts}
use Rattle.write_order.proofs.ChainLaws.{length-starts, starts_at}
use Rattle.write_numbers.specs.Roster.{state_of}
use Rattle.write_numbers.specs.Fill.{of_table, all_of_table}
use Rattle.write_numbers.proofs.OfTableLaws.{of_table_more, of_table_pass}
use Rattle.write_numbers.proofs.StateLaws.{state_members}
use Rattle.layout.specs.Limits.{most_items}
use Rattle.write_slots.specs.NumberedAs.{child_items, from_last, Parents, Siblings}
use Rattle.write_slots.proofs.StateLaws.{Right, above_is}

-- what was put at the front
get_first : (l vs : List ℕ) (j : ℕ) → length vs ≤ length l → j < length vs → get_or (put_at l 0 vs) j 0 ≡ get_or vs j 0
get_first l vs j h k = let e : j ≡ 0 + j = omega arith in ap (λ (i : ℕ). get_or (put_at l 0 vs) i 0) e ∙ get_put l 0 vs j (omega arith) k

module _ (ws : List ℕ) where
  pub child_items_more : (b n : ℕ) → child_items ws b (suc n) ≡ child_items ws b n ++ pick (eqb (item_parent ws n) b) (n ∷ []) []
  unfolding child_items
  child_items_more b n = refl

  pub child_items_miss : (b n : ℕ) → (item_parent ws n ≡ b → ⊥) → child_items ws b (suc n) ≡ child_items ws b n
  unfolding child_items pick
  child_items_miss b n ne = rw (ne_eqb _ _ ne) (append-nil (child_items ws b n))

-- the words of buckets past the last
past : (hashes : List ℕ) (b : ℕ) → length hashes ≤ b → bucket_start hashes b ≡ length hashes
past hashes zero h = let e : 0 ≡ length hashes = omega arith in ap (bucket_start hashes) e ∙ start-all hashes
past hashes (suc b) h =
    ⊎_elim
    (λ l. let e : suc b ≡ length hashes = omega arith in ap (bucket_start hashes) e ∙ start-all hashes)
    (λ g. omega (arith, start-suc hashes b, past hashes b g, start-most hashes (suc b)))
    (lt_or_ge b (length hashes))

module _ (ws ar : List ℕ) (r : Right ws ar) where
  -- ---- as the definition has them

  few : item_total ws ≤ most_items
  few = r.valid.items

  parent_low : (c : ℕ) → c < item_total ws → item_parent ws c < item_total ws
  parent_low c l =
      ⊎_elim
      (λ e. omega arith)
      (λ ne. let b = r.parent c l ne in omega (arith, b.earlier))
      (eq_or_ne (item_parent ws c) 0)

  above_by : (p i : ℕ) → i < most_items → eqb (pick (eqb p 0) no_item (p - 1)) i ≡ eqb p (i + 1)
  unfolding pick
  above_by p i l =
      ⊎_elim
      (λ e. rw (eq-eqb p 0 e) (ne_eqb _ _ (λ (q : no_item ≡ i). omega arith) ∙ sym (ne_eqb p (i + 1) (λ q. omega arith))))
      (λ ne. rw (ne_eqb p 0 ne)
      (⊎_elim (λ (e : p ≡ i + 1). eq-eqb (p - 1) i (omega arith) ∙ sym (eq-eqb p (i + 1) e)) (λ (n : p ≡ i + 1 → ⊥). ne_eqb (p - 1) i (λ q. n (omega arith)) ∙ sym (ne_eqb p (i + 1) n)) (eq_or_ne p (i + 1))))
      (eq_or_ne p 0)

  module _ (t i : ℕ) (inside : i < item_total ws) (own : item_table ws i ≡ t) where
    above_own : (n : ℕ) → n < item_total ws → eqb ((state_of ws ar t).above n) i ≡ eqb (item_parent ws n) (i + 1)
    above_own n l = ap (λ (a : ℕ). eqb a i) (above_is ws ar t n l) ∙ above_by (item_parent ws n) i (omega (arith, few))

    one_child : (n : ℕ) → children_in (state_of ws ar t) i (n ∷ []) ≡ pick (eqb ((state_of ws ar t).above n) i) (n ∷ []) []
    unfolding children_in
    one_child n = refl

    no_child : children_in (state_of ws ar t) i [] ≡ []
    unfolding children_in
    no_child = refl

    child_items-of_table : (n : ℕ) → n ≤ item_total ws → children_in (state_of ws ar t) i (of_table ws t n) ≡ child_items ws (i + 1) n
    unfolding child_items of_table
    child_items-of_table zero h = no_child
    child_items-of_table (suc n) h =
        ⊎_elim
        (λ e. rw (of_table_more ws t n e, children_append, child_items-of_table n (omega arith), one_child n, above_own n h))
        (λ ne. rw (of_table_pass ws t n ne)
        (child_items-of_table n (omega arith)
        ∙ sym (child_items_miss ws (i + 1) n (λ e. let b = r.parent n h (λ z. omega arith) in
        let q : item_parent ws n - 1 ≡ i = omega arith in
        ne (sym b.same ∙ ap (item_table ws) q ∙ own)))))
        (eq_or_ne (item_table ws n) t)

    pub children_child_items : children_of (state_of ws ar t) i ≡ child_items ws (i + 1) (item_total ws)
    unfolding children_of all_of_table
    children_child_items = ap (children_in (state_of ws ar t) i) (state_members ws ar t) ∙ child_items-of_table (item_total ws) (omega arith)

  -- ---- as buckets have them

  -- of n items from one on those with a parent word
  up : ℕ → ℕ → ℕ → List ℕ
  up b from zero = []
  up b from (suc n) = pick (eqb (item_parent ws from) b) (from ∷ up b (suc from) n) (up b (suc from) n)

  up_snoc : (b from n : ℕ) → up b from (suc n) ≡ up b from n ++ pick (eqb (item_parent ws (from + n)) b) ((from + n) ∷ []) []
  unfolding up
  up_snoc b from zero = let e : from + 0 ≡ from = omega arith in rw e
  up_snoc b from (suc n) =
      let e : from + suc n ≡ suc from + n = omega arith in
      rw (up_snoc b (suc from) n, e) (pick-append (eqb (item_parent ws from) b) from (up b (suc from) n) (pick (eqb (item_parent ws (suc from + n)) b) ((suc from + n) ∷ []) []))

  up_child_items : (b n : ℕ) → up b 0 n ≡ child_items ws b n
  unfolding child_items up
  up_child_items b zero = refl
  up_child_items b (suc n) = let e : 0 + n ≡ n = omega arith in up_snoc b 0 n ∙ rw (up_child_items b n, e)

  module _ (hashes : List ℕ) (long : length hashes ≡ item_total ws) (p : Parents ws hashes) where
    bucket_is : (k : ℕ) → k < item_total ws → bucket_of hashes k ≡ item_parent ws (from_last ws k)
    unfolding bucket_of
    bucket_is k l = rw (p k l, long) (mod-eq_of_lt (parent_low (from_last ws k) (omega arith)))

    made : (q : Bool) (k : ℕ) (l : List ℕ) → map (from_last ws) (pick q (k ∷ l) l) ≡ pick q (from_last ws k ∷ map (from_last ws) l) (map (from_last ws) l)
    unfolding pick
    made true k l = refl
    made false k l = refl

    run_up : (b k : ℕ) → k ≤ item_total ws → map (from_last ws) (run hashes b k) ≡ up b (item_total ws - k) k
    unfolding run up
    run_up b zero h = refl
    run_up b (suc k) h =
        let e : item_total ws - suc k ≡ from_last ws k = omega arith in
        let f : suc (from_last ws k) ≡ item_total ws - k = omega arith in
        made (eqb (bucket_of hashes k) b) k (run hashes b k) ∙ rw (bucket_is k h, run_up b k (omega arith), e, f)

    run-child_items : (b : ℕ) → map (from_last ws) (run hashes b (length hashes)) ≡ child_items ws b (item_total ws)
    run-child_items b =
        let none : item_total ws - item_total ws ≡ 0 = omega arith in
        ap (λ (k : ℕ). map (from_last ws) (run hashes b k)) long ∙ run_up b (item_total ws) (omega arith) ∙ ap (λ (k : ℕ). up b k (item_total ws)) none ∙ up_child_items b (item_total ws)

    length-child_items : (b : ℕ) → length (run hashes b (length hashes)) ≡ length (child_items ws b (item_total ws))
    length-child_items b = sym (length-map (run hashes b (length hashes)) (from_last ws)) ∙ ap length (run-child_items b)

    module _ (order firsts : List ℕ) (size : length order ≡ most_items) (wide : length firsts ≡ 1026) (spare : (b : ℕ) → b < 1026 → get_or firsts b 0 ≡ item_total ws) where
      first_at : (b : ℕ) → b < 1026 → get_or (put_at firsts 0 (starts hashes)) b 0 ≡ bucket_start hashes b
      first_at b h =
          let n : length (starts hashes) ≡ item_total ws = length-starts hashes ∙ long in
          ⊎_elim
          (λ l. get_first firsts (starts hashes) b (omega (arith, few)) (omega arith) ∙ starts_at hashes b (omega (arith, long)))
          (λ g. get_after firsts 0 (starts hashes) b (omega arith) ∙ spare b h ∙ sym long ∙ sym (past hashes b (omega (arith, long))))
          (lt_or_ge b (item_total ws))

      child_at_lem : (i j : ℕ) → i < most_items → j < length (child_items ws (i + 1) (item_total ws))
          → from_last ws (get_or (put_at order 0 (by_bucket hashes)) (get_or (put_at firsts 0 (starts hashes)) (i + 1) 0 + j) 0) ≡ get_or (child_items ws (i + 1) (item_total ws)) j 0
      child_at_lem i j h l =
          let in_run : j < length (run hashes (i + 1) (length hashes)) = omega (arith, length-child_items (i + 1)) in
          let step : bucket_start hashes (suc (i + 1)) ≡ bucket_start hashes (i + 1) + length (run hashes (i + 1) (length hashes)) = start-suc hashes (i + 1) in
          let low : bucket_start hashes (suc (i + 1)) ≤ length hashes = start-most hashes (suc (i + 1)) in
          let n : length (by_bucket hashes) ≡ length hashes = length_indexed hashes in
          let b : i + 1 < length hashes = inner step low in_run in
          rw (first_at (i + 1) (omega arith), get_first order (by_bucket hashes) (bucket_start hashes (i + 1) + j) (omega (arith, long, few)) (omega arith), index_at hashes (i + 1) j b in_run)
          (sym (get_or_made (from_last ws) (run hashes (i + 1) (length hashes)) j in_run) ∙ ap (λ (l : List ℕ). get_or l j 0) (run-child_items (i + 1)))
        where
          inner : bucket_start hashes (suc (i + 1)) ≡ bucket_start hashes (i + 1) + length (run hashes (i + 1) (length hashes)) → bucket_start hashes (suc (i + 1)) ≤ length hashes
              → j < length (run hashes (i + 1) (length hashes)) → i + 1 < length hashes
          inner step low in_run = ⊎_elim (λ x. x) (λ g. absurd (omega (arith, past hashes (i + 1) g))) (lt_or_ge (i + 1) (length hashes))

      pub siblings_made : Siblings ws (put_at order 0 (by_bucket hashes)) (put_at firsts 0 (starts hashes))
      siblings_made = record {
        long = length-put order 0 (by_bucket hashes) ∙ size;
        wide = length-put firsts 0 (starts hashes) ∙ wide;
        inside = λ j h. rw (get_first order (by_bucket hashes) j (omega (arith, length_indexed hashes, long, few)) (omega (arith, length_indexed hashes, long)))
            (omega (arith, (indexed_each hashes).within j (omega (arith, long)), long));
        next = λ i h. let e : i + 2 ≡ suc (i + 1) = omega arith in
            first_at (i + 2) (omega arith) ∙ omega (arith, ap (bucket_start hashes) e, start-suc hashes (i + 1), first_at (i + 1) (omega arith), length-child_items (i + 1));
        few = λ i h. omega (arith, first_at (i + 2) (omega arith), start-most hashes (i + 2), long);
        child = child_at_lem;
      }
