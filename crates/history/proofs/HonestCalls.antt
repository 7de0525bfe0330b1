-- The insert of a value, a new table and the fresh start keep memory honest.
use Rattle.std.specs.Prelude.{Result}
use Rattle.layout.specs.declared.refusal.Refusal.{Refusal}
use Rattle.model.specs.Inserted.{Inserted}
use Prim.Native.Nat.{ℕ, ◌+◌, ◌≤◌, ◌<◌}
use native.Mathlib.Omega.{arith}
use native.Mathlib.Decide.{dec_lt}
use mathlib.Core.Path.{◌≡◌, refl, sym, ap, ◌∙◌, subst}
use mathlib.Core.Bool.{Bool, true, false}
use mathlib.Core.List.{List, [], ◌∷◌}
use borrow.Author.Tests.{ltb-false, leb-true, leb-false}
use lib.Dec.{eqb, ltb, leb}
use lib.ListN.{length}
use Rattle.words.specs.Choice.{pick}
use Rattle.words.specs.Store.{put_at}
use Rattle.words.proofs.ChoiceLaws.{pick_with}
use Rattle.words.proofs.StoreLaws.{length-put, get_put, get_before, get_after}
use Rattle.text.specs.Utf8.{first_bad, is_utf8}
use Rattle.layout.specs.Limits.{longest_key, most_tables}
use Rattle.model.specs.Builder.{separator_of}
use Rattle.layout.specs.Kind.{value_kind}
use Rattle.build_memory.specs.Memory.{word, least_words, table_at, table_total, item_total, table_separator, table_placed, table_height, valid, fresh_words, Memory, Outcome}
use Rattle.build_memory.specs.Item.{Stored, stored}
use Rattle.build_tables.specs.Table.{free_standing, add_table, new_table}
use Rattle.build_tables.proofs.TableLaws.{free_standing_facts}
use Rattle.build_values.specs.Insert.{keyed, insert_at_key, insert_value}
use Rattle.history.specs.Items.{Item, item_of, Table, table_of}
use Rattle.history.specs.Consistent.{Consistent}
use Rattle.layout.specs.declared.refusal.Refusal.TheVariants.{MemoryBroken, TableUnknown, KeyNotUtf8, KeyTooLong}
use Rattle.history.specs.Honest.{Honest}
use Rattle.history.proofs.TidyTables as low
use Rattle.history.proofs.Consistent.{consistent_grow, consistent_none}
use Rattle.history.proofs.GoodContainers.{Lows}
use Rattle.history.proofs.GoodInsert.{accepted, After, after_not, after_where, walked_after}

-- ---- the tables that the words say
pub table_same : (ws w : List ℕ) (t : ℕ) → table_separator w t ≡ table_separator ws t → table_placed w t ≡ table_placed ws t → table_height w t ≡ table_height ws t
    → table_of w t ≡ table_of ws t
unfolding table_of
table_same ws w t a b c = cc

pub lows_table : (ws w : List ℕ) → Lows ws w → (t : ℕ) → t < most_tables → table_of w t ≡ table_of ws t
lows_table ws w l t h =
    let at : (f : ℕ) → f < 3 → word w (table_at t + f) ≡ word ws (table_at t + f) =
    λ f u. l (table_at t + f) (omega arith) (λ (e : table_at t + f ≡ 3). omega arith) (λ (e : table_at t + f ≡ 4). omega arith) in
    table_same ws w t (at 0 (omega arith)) (at 1 (omega arith)) (at 2 (omega arith))

pub sep_same : (ws : List ℕ) (t : ℕ) → (table_of ws t).sep ≡ table_separator ws t
unfolding table_of
sep_same ws t = refl

pub placed_word : (ws : List ℕ) (t : ℕ) → (table_of ws t).placed ≡ table_placed ws t
unfolding table_of
placed_word ws t = refl

pub height-word : (ws : List ℕ) (t : ℕ) → (table_of ws t).height ≡ table_height ws t
unfolding table_of
height-word ws t = refl

-- ---- what a call leaves is honest
pub after_honest : (ws ar : List ℕ) (t : ℕ) (k : List ℕ) (c : Stored) (o : Outcome Inserted) → Honest ws ar → After (table_of ws) ws ar t k c o → Honest o.after.words o.after.arena
after_honest ws ar t k c o honest after = by_answer (accepted o.answer) refl
  where
    by_answer : (q : Bool) → accepted o.answer ≡ q → Honest o.after.words o.after.arena
    by_answer true e =
        let good = after.good e in
        let few = good.consistent.tables in
        record {
          tidy = good.tidy;
          consistent = consistent_grow (table_total o.after.words) (table_total o.after.words) (item_total o.after.words) (table_of ws) (table_of o.after.words) (item_of o.after.words o.after.arena)
              good.consistent (omega arith) few (λ t l. lows_table ws o.after.words after.lows t (omega arith)) (λ t l u. absurd (omega arith)) (λ t l u e. omega arith);
        }
    by_answer false e = subst (λ (m : Memory). Honest m.words m.arena) (sym (after.same e)) honest

-- 8 and 20, before what comes next
pub keyed_after : (g : ℕ → Table) (ws ar : List ℕ) (t : ℕ) (k : List ℕ) (c : Stored) (o : Outcome Inserted)
    → (is_utf8 k ≡ true → length k ≤ longest_key → After g ws ar t k c o) → After g ws ar t k c (keyed ws ar k o)
unfolding keyed
keyed_after g ws ar t k c o f =
    after_where g ws ar t k c (is_utf8 k) (KeyNotUtf8 (first_bad k)) _ (λ text. after_not g ws ar t k c (ltb longest_key (length k)) KeyTooLong o (λ short. f text (ltb-false longest_key (length k) short)))

module _ (ws ar : List ℕ) (honest : Honest ws ar) (t : ℕ) (k v : List ℕ) where
  abbrev c : Stored
  c = stored value_kind v 0

  pub value_after : After (table_of ws) ws ar t k c (insert_value ws ar t k v)
  unfolding insert_value insert_at_key
  value_after =
      after_where (table_of ws) ws ar t k c (valid ws (length ar)) MemoryBroken _ (λ a.
      after_where (table_of ws) ws ar t k c (free_standing ws t) TableUnknown _ (λ b.
      keyed_after (table_of ws) ws ar t k c _ (λ text short.
      let free = free_standing_facts ws t b in
      walked_after (table_of ws) ws ar t k 64 (sep_same ws t)
      (λ p. let z : ◌≡◌ {A = ℕ} 1 0 = sym p ∙ placed_word ws t ∙ free.1 in omega arith)
      text short c honest free.0
      (record { kind = refl; guest = λ (z : ◌≡◌ {A = ℕ} 118 72). absurd (omega arith) })
      (λ i l x y. let g = (honest.consistent.guests i l x).0 in let few = honest.consistent.tables in omega arith) false)))

  pub value_honest : Honest (insert_value ws ar t k v).after.words (insert_value ws ar t k v).after.arena
  value_honest = after_honest ws ar t k c (insert_value ws ar t k v) honest value_after

-- ---- a new table
module _ (ws ar : List ℕ) (sep : ℕ) (honest : Honest ws ar) (few : table_total ws < most_tables) (domain : sep < 256 → sep ≤ 127) where
  abbrev row : List ℕ
  row = sep ∷ 0 ∷ 0 ∷ []

  abbrev first : List ℕ
  first = put_at ws (table_at (table_total ws)) row

  abbrev pub tabled : List ℕ
  tabled = put_at first 2 ((table_total ws + 1) ∷ [])

  first_length : length first ≡ length ws
  first_length = let s = honest.tidy.valid-memory in length-put ws (table_at (table_total ws)) row

  -- a word before the new table, the count left aside
  pub kept_low : (p : ℕ) → p < table_at (table_total ws) → (p ≡ 2 → ⊥) → word tabled p ≡ word ws p
  kept_low p h ne = by_side (dec_lt p 2) ∙ (let s = honest.tidy.valid-memory in get_before ws (table_at (table_total ws)) row p h)
    where
      by_side : Dec (p < 2) → word tabled p ≡ word first p
      by_side (yes l) = let s = honest.tidy.valid-memory in get_before first 2 ((table_total ws + 1) ∷ []) p l
      by_side (no l) = let s = honest.tidy.valid-memory in get_after first 2 ((table_total ws + 1) ∷ []) p (omega arith)

  pub kept_high : (p : ℕ) → 264 ≤ p → word tabled p ≡ word ws p
  kept_high p h =
      let s = honest.tidy.valid-memory in
      get_after first 2 ((table_total ws + 1) ∷ []) p (omega arith)
      ∙ get_after ws (table_at (table_total ws)) row p (omega arith)

  pub two : table_total tabled ≡ table_total ws + 1
  two = let s = honest.tidy.valid-memory in get_put first 2 ((table_total ws + 1) ∷ []) 0 (omega (arith, first_length)) (omega arith)

  pub three : item_total tabled ≡ item_total ws
  three = kept_low 3 (omega arith) (λ (e : 3 ≡ 2). omega arith)

  pub size : length tabled ≡ length ws
  size = let s = honest.tidy.valid-memory in length-put first 2 ((table_total ws + 1) ∷ []) ∙ first_length

  pub loose : word tabled (table_at (table_total ws) + 1) ≡ 0
  loose =
      let s = honest.tidy.valid-memory in
      get_after first 2 ((table_total ws + 1) ∷ []) (table_at (table_total ws) + 1) (omega arith)
      ∙ get_put ws (table_at (table_total ws)) row 1 (omega arith) (omega arith)

  pub mark : word tabled (table_at (table_total ws) + 0) ≡ sep
  mark =
      let s = honest.tidy.valid-memory in
      get_after first 2 ((table_total ws + 1) ∷ []) (table_at (table_total ws) + 0) (omega arith)
      ∙ get_put ws (table_at (table_total ws)) row 0 (omega arith) (omega arith)

  pub same_table : (t : ℕ) → t < table_total ws → table_of tabled t ≡ table_of ws t
  same_table t l =
      table_same ws tabled t (kept_low (table_at t + 0) (omega arith) (λ (e : table_at t + 0 ≡ 2). omega arith))
      (kept_low (table_at t + 1) (omega arith) (λ (e : table_at t + 1 ≡ 2). omega arith)) (kept_low (table_at t + 2) (omega arith) (λ (e : table_at t + 2 ≡ 2). omega arith))

  tabled_honest : Honest tabled ar
  tabled_honest =
      let w0 = kept_low 0 (omega arith) (λ (e : 0 ≡ 2). omega arith) in
      let w1 = kept_low 1 (omega arith) (λ (e : 1 ≡ 2). omega arith) in
      let w4 = kept_low 4 (omega arith) (λ (e : 4 ≡ 2). omega arith) in
      let w2 : table_total tabled ≤ most_tables = omega (arith, two) in
      record {
        tidy = low.low_tidy ws tabled ar honest.tidy size w0 w1 w2 three w4 kept_high;
        consistent =
            subst (λ (f : ℕ → Item). Consistent (table_total tabled) (item_total tabled) (table_of tabled) f) (sym (low.low_items ws tabled ar honest.tidy size w0 w1 w2 three w4 kept_high))
            (subst (λ (n : ℕ). Consistent (table_total tabled) n (table_of tabled) (item_of ws ar)) (sym three)
            (consistent_grow (table_total ws) (table_total tabled) (item_total ws) (table_of ws) (table_of tabled) (item_of ws ar) honest.consistent (omega (arith, two)) w2 same_table
            (λ t l u. let z : t ≡ table_total ws = omega (arith, two) in ap (λ (x : ℕ). (table_of tabled x).placed) z ∙ placed_word tabled (table_total ws) ∙ loose)
            (λ t l u e.
            let z : t ≡ table_total ws = omega (arith, two) in
            let y : (table_of tabled t).sep ≡ sep = ap (λ (x : ℕ). (table_of tabled x).sep) z ∙ sep_same tabled (table_total ws) ∙ mark in
            let b = domain (omega arith) in
            omega arith)));
      }

pub sep_domain : (s : List ℕ) → separator_of s < 256 → separator_of s ≤ 127
unfolding separator_of pick
sep_domain [] h = let z : 256 < 256 = h in absurd (omega arith)
sep_domain (b ∷ []) h = by_test (leb b 127) refl
  where
    by_test : (q : Bool) → leb b 127 ≡ q → pick q b 0 ≤ 127
    by_test true e = leb-true b 127 e
    by_test false e = omega arith
sep_domain (b ∷ c ∷ more) h = omega arith

-- a row of refusals of a new table
record Stays (o : Outcome (Result ℕ Refusal)) : Type 0 where
  pub honest : Honest o.after.words o.after.arena

stays_by : (b : Bool) (o o' : Outcome (Result ℕ Refusal)) → (b ≡ true → Stays o) → (b ≡ false → Stays o') → Stays (pick b o o')
stays_by b o o' f g = pick_with Stays b o o' f g

table_stays : (ws ar separator : List ℕ) → Honest ws ar → Stays (new_table ws ar separator)
unfolding new_table add_table
table_stays ws ar separator honest =
    stays_by (valid ws (length ar)) _ _
    (λ a. stays_by (eqb (separator_of separator) 0) _ _ (λ b. record { honest = honest })
    (λ b. stays_by (leb most_tables (table_total ws)) _ _ (λ c. record { honest = honest })
    (λ c. record { honest = tabled_honest ws ar (separator_of separator) honest (leb-false most_tables (table_total ws) c) (sep_domain separator) })))
    (λ a. record { honest = honest })

pub table_honest : (ws ar separator : List ℕ) → Honest ws ar → Honest (new_table ws ar separator).after.words (new_table ws ar separator).after.arena
table_honest ws ar separator h = (table_stays ws ar separator h).honest

-- ---- the fresh start
pub fresh_honest : (ws ar : List ℕ) → least_words ≤ length ws → Honest (fresh_words ws (length ar)) ar
fresh_honest ws ar long =
    let w = fresh_words ws (length ar) in
    record {
      tidy = low.fresh_tidy ws ar long;
      consistent = subst (λ (n : ℕ). Consistent (table_total w) n (table_of w) (item_of w ar)) (sym (low.fresh-three ws ar long))
          (subst (λ (n : ℕ). Consistent n 0 (table_of w) (item_of w ar)) (sym (low.fresh-two ws ar long)) (consistent_none (table_of w) (item_of w ar)));
    }
