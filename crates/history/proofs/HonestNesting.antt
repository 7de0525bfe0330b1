-- The insert of a table keeps memory honest.
use Rattle.std.specs.Prelude.{Ok, Err, Some, None}
use Rattle.model.specs.Inserted.{Inserted}
use Prim.Native.Nat.{ℕ, zero, suc, ◌+◌, ◌≤◌, ◌<◌, ◌-◌}
use native.Mathlib.Nat.{not-suc-le-zero}
use native.Mathlib.Omega.{arith}
use native.Mathlib.Decide.{dec_lt}
use mathlib.Core.Path.{◌≡◌, refl, sym, ap, ◌∙◌, subst}
use mathlib.Core.Bool.{Bool, true, false}
use mathlib.Core.List.{List, []}
use borrow.Author.Tests.{eqb-true, eqb-false, eq-eqb, ne_eqb, ltb-true, ltb-false, lt-ltb}
use lib.Dec.{eqb, ltb}
use lib.ListN.{length}
use Rattle.words.specs.Choice.{pick}
use Rattle.words.proofs.ChoiceLaws.{pick_with}
use Rattle.text.specs.Utf8.{first_bad, is_utf8}
use Rattle.layout.specs.declared.refusal.Refusal.{Refusal}
use Rattle.layout.specs.Limits.{longest_key, deepest, most_tables}
use Rattle.model.specs.Builder.{most}
use Rattle.layout.specs.Kind.{table_kind}
use Rattle.build_memory.specs.Memory.{word, table_at, table_total, item_total, table_separator, table_placed, table_height, item_table, item_kind, item_guest, valid, Memory, memory, Outcome, outcome}
use Rattle.build_memory.specs.Item.{stored}
use Rattle.build_tables.specs.Table.{free_standing}
use Rattle.build_tables.proofs.TableLaws.{free_standing_facts}
use Rattle.build_values.specs.Walk.{way_of}
use Rattle.build_values.specs.Insert.{refused, insert_below_path, keyed}
use Rattle.build_nested.specs.Nest.{held_at, held_height, place_table, when_accepted, settled, nested, nest_at_key, insert_table}
use Rattle.history.specs.Items.{Item, item_of, Table, table_of}
use Rattle.history.specs.Consistent.{held_item, held_in, Consistent}
use Rattle.layout.specs.declared.refusal.Refusal.TheVariants.{MemoryBroken, TableUnknown, TableInItself, KeyNotUtf8, KeyTooLong, NotContainer, NestedTooDeep}
use Rattle.build_nested.proofs.NestLaws.{held_other, held_kind, held_guest}
use Rattle.history.specs.Honest.{Good, Honest}
use Rattle.history.proofs.TidyTables as low
use Rattle.history.proofs.PlacedTable as placed
use Rattle.history.proofs.TidySearch.{false-true}
use Rattle.history.proofs.Consistent.{ranges_of, consistent_grow, most_cong, item_else, item_kind_lem, item-holds}
use Rattle.history.proofs.GoodInsert.{accepted, After, walked_after}
use Rattle.history.proofs.HonestCalls.{table_same, lows_table, sep_same, placed_word, height-word}

-- each is at most the greatest
pub most_upper : (f : ℕ → ℕ) (n i : ℕ) → i < n → f i ≤ most f n
unfolding most pick
most_upper f zero i h = absurd (not-suc-le-zero h)
most_upper f (suc n) i h = by_test (ltb (most f n) (f n)) refl (eqb i n) refl (most_upper f n i)
  where
    by_test : (q : Bool) → ltb (most f n) (f n) ≡ q → (r : Bool) → eqb i n ≡ r → (i < n → f i ≤ most f n) → f i ≤ pick q (f n) (most f n)
    by_test true a true b ih = let e = ap f (eqb-true i n b) in omega arith
    by_test true a false b ih =
        let ne = eqb-false i n b in
        let l = ih (omega arith) in
        let u = ltb-true (most f n) (f n) a in
        omega arith
    by_test false a true b ih =
        let e = ap f (eqb-true i n b) in
        let u = ltb-false (most f n) (f n) a in
        omega arith
    by_test false a false b ih = let ne = eqb-false i n b in ih (omega arith)

-- what an item says, by its words
item_words : (ws ar : List ℕ) (i : ℕ) → ((item_of ws ar i).table ≡ item_table ws i) × ((item_of ws ar i).kind ≡ item_kind ws i) × ((item_of ws ar i).guest ≡ item_guest ws i)
unfolding item_of
item_words ws ar i = (refl, refl, refl)

-- ---- what the words say of the heights held is so
module _ (ws ar : List ℕ) (honest : Honest ws ar) (t : ℕ) where
  abbrev high : ℕ → ℕ
  high x = (table_of ws x).height

  held_same : (i : ℕ) → i < item_total ws → held_at ws t i ≡ held_item high t (item_of ws ar i)
  held_same i l = by_test (eqb (item_of ws ar i).table t) refl (eqb (item_of ws ar i).kind 72) refl
    where
      by_test : (q : Bool) → eqb (item_of ws ar i).table t ≡ q → (r : Bool) → eqb (item_of ws ar i).kind 72 ≡ r → held_at ws t i ≡ held_item high t (item_of ws ar i)
      by_test true a true b =
          let w = item_words ws ar i in
          let at = eqb-true (item_of ws ar i).table t a in
          let bt = eqb-true (item_of ws ar i).kind 72 b in
          let r = (honest.consistent.guests i l bt).0 in
          let few = honest.consistent.tables in
          let g = w.2 in
          sym (held_guest ws t i (item_table ws i) refl (sym w.0 ∙ at) (item_kind ws i) refl (sym w.1 ∙ bt) (item_guest ws i) refl (omega arith))
          ∙ sym (ap high g ∙ height-word ws (item_guest ws i))
          ∙ sym (item-holds high t (item_of ws ar i) at bt)
      by_test true a false b =
          let w = item_words ws ar i in
          let at = eqb-true (item_of ws ar i).table t a in
          sym (held_kind ws t i (item_table ws i) refl (sym w.0 ∙ at) (item_kind ws i) refl (λ e. eqb-false (item_of ws ar i).kind 72 b (w.1 ∙ e))) ∙ sym (item_kind_lem high t (item_of ws ar i) (eqb-false (item_of ws ar i).kind 72 b))
      by_test false a r b =
          let w = item_words ws ar i in
          sym (held_other ws t i (item_table ws i) refl (λ e. eqb-false (item_of ws ar i).table t a (w.0 ∙ e))) ∙ sym (item_else high t (item_of ws ar i) (eqb-false (item_of ws ar i).table t a))

  pub held_is : held_height ws t ≡ held_in (item_total ws) (item_of ws ar) high t
  unfolding held_height held_in
  held_is = most_cong (held_at ws t) (λ (i : ℕ). held_item high t (item_of ws ar i)) (item_total ws) held_same

-- ---- the refusals before
pub record Nested (ws ar : List ℕ) (t : ℕ) (k : List ℕ) (G : ℕ) (x : Outcome Inserted) : Type 0 where
  pub honest : Honest x.after.words x.after.arena
  pub placed : accepted x.answer ≡ true → (table_of x.after.words G).placed ≡ 1
  pub same : accepted x.answer ≡ false → x.after ≡ memory ws ar

stays_by : (ws ar : List ℕ) (t : ℕ) (k : List ℕ) (G : ℕ) (b : Bool) (x y : Outcome Inserted) → (b ≡ true → Nested ws ar t k G x) → (b ≡ false → Nested ws ar t k G y)
    → Nested ws ar t k G (pick b x y)
stays_by ws ar t k G b x y f g = pick_with (Nested ws ar t k G) b x y f g

by_case : (ws ar : List ℕ) (t : ℕ) (k : List ℕ) (G h : ℕ) (x : Outcome Inserted) (r : Inserted)
    → (accepted r ≡ true → when_accepted r (place_table x.after.words G h) x.after.words ≡ place_table x.after.words G h
    → Nested ws ar t k G (outcome r (memory (when_accepted r (place_table x.after.words G h) x.after.words) x.after.arena)))
    → (accepted r ≡ false → when_accepted r (place_table x.after.words G h) x.after.words ≡ x.after.words
    → Nested ws ar t k G (outcome r (memory (when_accepted r (place_table x.after.words G h) x.after.words) x.after.arena)))
    → Nested ws ar t k G (outcome r (memory (when_accepted r (place_table x.after.words G h) x.after.words) x.after.arena))
unfolding when_accepted
by_case ws ar t k G h x (Ok _) f g = f refl refl
by_case ws ar t k G h x (Err why) f g = g refl refl

module _ (ws ar : List ℕ) (honest : Honest ws ar) (t : ℕ) (k : List ℕ) (G : ℕ) (known : t < table_total ws) (free : table_placed ws t ≡ 0)
    (guest_known : G < table_total ws) (guest-free : table_placed ws G ≡ 0) (two : t ≡ G → ⊥)
    (text : is_utf8 k ≡ true) (short : length k ≤ longest_key) where
  abbrev pub h : ℕ
  h = held_height ws G + 1

  abbrev pub o : Outcome Inserted
  o = insert_below_path ws ar t k (stored table_kind [] G) (ltb deepest (h + 1))

  -- no item holds the guest
  pub alone : (i : ℕ) → i < item_total ws → (item_of ws ar i).kind ≡ 72 → (item_of ws ar i).guest ≡ G → ⊥
  alone i l a b =
      let r = honest.consistent.guests i l a in
      let z : ◌≡◌ {A = ℕ} 1 0 = sym r.1 ∙ ap (λ (x : ℕ). (table_of ws x).placed) b ∙ placed_word ws G ∙ guest-free in
      omega arith

  -- the heights of the tables that the guest holds
  lower : (i : ℕ) → i < item_total ws → (item_of ws ar i).table ≡ G → (item_of ws ar i).kind ≡ 72 → (table_of ws (item_of ws ar i).guest).height < h
  unfolding held_height
  lower i l a b =
      let w = item_words ws ar i in
      let r = (honest.consistent.guests i l b).0 in
      let few = honest.consistent.tables in
      let g = w.2 in
      let e = held_guest ws G i (item_table ws i) refl (sym w.0 ∙ a) (item_kind ws i) refl (sym w.1 ∙ b) (item_guest ws i) refl (omega arith) in
      let m = most_upper (held_at ws G) (item_total ws) i l in
      let x : (table_of ws (item_of ws ar i).guest).height ≡ held_at ws G i = ap (λ (y : ℕ). (table_of ws y).height) g ∙ height-word ws (item_guest ws i) ∙ e in
      omega arith

  -- the tables with the guest placed
  abbrev placed_guest : Table
  placed_guest = record { sep = table_separator ws G; placed = 1; height = h }

  pub g' : ℕ → Table
  g' x = pick (eqb x G) placed_guest (table_of ws x)

  pub g_its : g' G ≡ placed_guest
  unfolding g' pick
  g_its = simp (eq-eqb G G refl)

  pub g_other : (x : ℕ) → (x ≡ G → ⊥) → g' x ≡ table_of ws x
  unfolding g' pick
  g_other x ne = simp (ne_eqb x G ne)

  pub g_sep : (x : ℕ) → (g' x).sep ≡ (table_of ws x).sep
  g_sep x = by_test (eqb x G) refl
    where
      by_test : (q : Bool) → eqb x G ≡ q → (g' x).sep ≡ (table_of ws x).sep
      by_test true e =
          let f = eqb-true x G e in
          ap (λ (y : ℕ). (g' y).sep) f ∙ ap (λ (y : Table). y.sep) g_its ∙ sym (sep_same ws G) ∙ ap (λ (y : ℕ). (table_of ws y).sep) (sym f)
      by_test false e = ap (λ (y : Table). y.sep) (g_other x (eqb-false x G e))

  module _ (shallow : held_height ws G < deepest - 1) where
    pub good : Good g' ws ar
    good =
        record {
          tidy = honest.tidy;
          consistent = ranges_of (table_total ws) (item_total ws) (table_of ws) g' (item_of ws ar) G h honest.consistent (placed_word ws G ∙ guest-free) (omega arith)
              (λ x l ne. g_other x ne) (λ x l. g_sep x) (ap (λ (y : Table). y.placed) g_its) (ap (λ (y : Table). y.height) g_its) lower (ap (λ (x : ℕ). x + 1) (held_is ws ar honest G));
        }

    pub after : After g' ws ar t k (stored table_kind [] G) o
    after =
        walked_after g' ws ar t k G (g_sep t ∙ sep_same ws t)
        (λ p. let z : ◌≡◌ {A = ℕ} 1 0 = sym p ∙ ap (λ (y : Table). y.placed) (g_other t two) ∙ placed_word ws t ∙ free in omega arith)
        text short (stored table_kind [] G) good known
        (record {
          kind = refl;
          guest = λ z. (refl, guest_known, ap (λ (y : Table). y.placed) g_its, (let e = ap (λ (y : Table). y.height) g_its in omega arith));
        })
        alone (ltb deepest (h + 1))

    -- the guest placed in the words
    module _ (yes-it : accepted o.answer ≡ true) where
      abbrev w : List ℕ
      w = o.after.words

      abbrev a : List ℕ
      a = o.after.arena

      abbrev done : List ℕ
      done = place_table w G h

      went : Good g' w a
      went = after.good yes-it

      bound : table_at G + 3 ≤ length w
      bound = let s = went.tidy.valid-memory in let few = honest.consistent.tables in omega arith

      small : G < most_tables
      small = let few = honest.consistent.tables in omega arith

      before : (p : ℕ) → p < table_at G + 1 → word done p ≡ word w p
      before = placed.before w G h

      low_same : (p : ℕ) → p < 264 → (p ≡ 3 → ⊥) → (p ≡ 4 → ⊥) → word w p ≡ word ws p
      low_same = after.lows

      table-from : (x s p y : ℕ) → table_separator done x ≡ s → table_placed done x ≡ p → table_height done x ≡ y → table_of done x ≡ record { sep = s; placed = p; height = y }
      unfolding table_of
      table-from x s p y e f z = cc

      its_table : table_of done G ≡ placed_guest
      its_table =
          table-from G (table_separator ws G) 1 h
          (before (table_at G + 0) (omega arith) ∙ low_same (table_at G + 0) (omega (arith, small)) (λ (e : table_at G + 0 ≡ 3). omega arith) (λ (e : table_at G + 0 ≡ 4). omega arith))
          (placed.mark w G h bound)
          (placed.height w G h bound)

      side : (x f : ℕ) → f < 3 → (x ≡ G → ⊥) → word done (table_at x + f) ≡ word w (table_at x + f)
      side = placed.side w G h

      other_table : (x : ℕ) → x < most_tables → (x ≡ G → ⊥) → table_of done x ≡ table_of ws x
      other_table x l ne =
          table_same w done x (side x 0 (omega arith) ne) (side x 1 (omega arith) ne) (side x 2 (omega arith) ne)
          ∙ lows_table ws w after.lows x l

      tables : (x : ℕ) → x < table_total w → table_of done x ≡ g' x
      tables x l = by_test (eqb x G) refl
        where
          by_test : (q : Bool) → eqb x G ≡ q → table_of done x ≡ g' x
          by_test true e = let f = eqb-true x G e in ap (table_of done) f ∙ its_table ∙ sym g_its ∙ ap g' (sym f)
          by_test false e = let few = went.consistent.tables in other_table x (omega arith) (eqb-false x G e) ∙ sym (g_other x (eqb-false x G e))

      done_honest : Honest done a
      done_honest =
          let w0 = before 0 (omega arith) in
          let w1 = before 1 (omega arith) in
          let w2 = before 2 (omega arith) in
          let w3 = before 3 (omega arith) in
          let w4 = before 4 (omega arith) in
          let few = went.consistent.tables in
          let high : (p : ℕ) → 264 ≤ p → word done p ≡ word w p = λ p l. placed.behind w G h p (omega (arith, small)) in
          let t2 : table_total done ≤ most_tables = omega arith in
          record {
            tidy = low.low_tidy w done a went.tidy (placed.size w G h) w0 w1 t2 w3 w4 high;
            consistent =
                subst (λ (f : ℕ → Item). Consistent (table_total done) (item_total done) (table_of done) f) (sym (low.low_items w done a went.tidy (placed.size w G h) w0 w1 t2 w3 w4 high))
                (subst (λ (n : ℕ). Consistent (table_total done) n (table_of done) (item_of w a)) (sym w3)
                (consistent_grow (table_total w) (table_total done) (item_total w) g' (table_of done) (item_of w a) went.consistent (omega arith) t2 tables (λ x l u. absurd (omega arith)) (λ x l u e. omega arith)));
          }

  -- a guest that is too high is refused, and nothing is written
  still : (why : Refusal) → Nested ws ar t k G (refused why ws ar)
  still why = record { honest = honest; placed = λ z. false-true z; same = λ z. refl }

  settle : (x : Outcome Inserted) → (accepted x.answer ≡ true → Honest (place_table x.after.words G h) x.after.arena)
      → (accepted x.answer ≡ true → (table_of (place_table x.after.words G h) G).placed ≡ 1)
      → (accepted x.answer ≡ false → x.after ≡ memory ws ar) → Nested ws ar t k G (settled G h x)
  unfolding settled
  settle x f p s = by_answer x.answer refl
    where
      out : Inserted → Outcome Inserted
      out r = outcome r (memory (when_accepted r (place_table x.after.words G h) x.after.words) x.after.arena)

      yes_by : (r : Inserted) → x.answer ≡ r → accepted r ≡ true → when_accepted r (place_table x.after.words G h) x.after.words ≡ place_table x.after.words G h
          → Nested ws ar t k G (out r)
      yes_by r e a w =
          let b : accepted x.answer ≡ true = ap accepted e ∙ a in
          record {
            honest = subst (λ (l : List ℕ). Honest l x.after.arena) (sym w) (f b);
            placed = λ z. subst (λ (l : List ℕ). (table_of l G).placed ≡ 1) (sym w) (p b);
            same = λ z. false-true (sym z ∙ a);
          }

      no_by : (r : Inserted) → x.answer ≡ r → accepted r ≡ false → when_accepted r (place_table x.after.words G h) x.after.words ≡ x.after.words
          → Nested ws ar t k G (out r)
      no_by r e a w =
          let b : x.after ≡ memory ws ar = s (ap accepted e ∙ a) in
          let m : memory (when_accepted r (place_table x.after.words G h) x.after.words) x.after.arena ≡ memory ws ar = ap (λ (l : List ℕ). memory l x.after.arena) w ∙ b in
          record {
            honest = subst (λ (m : Memory). Honest m.words m.arena) (sym m) honest;
            placed = λ z. false-true (sym a ∙ z);
            same = λ z. m;
          }

      by_answer : (r : Inserted) → x.answer ≡ r → Nested ws ar t k G (out x.answer)
      by_answer r e = subst (λ (q : Inserted). Nested ws ar t k G (out q)) (sym e) (by_case ws ar t k G h x r (yes_by r e) (no_by r e))

  deep_refused : (q b : Bool) → b ≡ true → (x : Outcome Inserted)
      → Nested ws ar t k G (settled G h (pick q (pick b (refused NestedTooDeep ws ar) x) (refused NotContainer ws ar)))
  unfolding settled pick when_accepted
  deep_refused true true e x = still NestedTooDeep
  deep_refused true false e x = false-true e
  deep_refused false b e x = still NotContainer

  deep : 7 ≤ held_height ws G → Nested ws ar t k G (settled G h o)
  unfolding insert_below_path
  deep l = deep_refused (way_of ws ar t k).clear (ltb deepest (h + 1)) (lt-ltb deepest (h + 1) (omega arith)) _

  pub nested_honest : Nested ws ar t k G (nested ws ar t k G)
  unfolding nested
  nested_honest = by_height (dec_lt (held_height ws G) 7)
    where
      by_height : Dec (held_height ws G < deepest - 1) → Nested ws ar t k G (settled G h o)
      by_height (yes l) = settle o (done_honest l) (λ y. ap (λ (z : Table). z.placed) (its_table l y)) (λ e. (after l).same e)
      by_height (no l) = deep (omega arith)

module _ (ws ar : List ℕ) (honest : Honest ws ar) (t : ℕ) (k : List ℕ) (G : ℕ) where
  pub nest_consistent : Nested ws ar t k G (insert_table ws ar t k G)
  unfolding insert_table nest_at_key keyed
  nest_consistent =
      let same : (why : Refusal) → Nested ws ar t k G (refused why ws ar) = λ why. record { honest = honest; placed = λ z. false-true z; same = λ z. refl } in
      let row = stays_by ws ar t k G in
      row (valid ws (length ar)) _ _ (λ a.
      row (free_standing ws t) _ _ (λ b.
      row (free_standing ws G) _ _ (λ c.
      row (eqb t G) _ _ (λ d. same TableInItself) (λ d.
      row (is_utf8 k) _ _ (λ e.
      row (ltb longest_key (length k)) _ _ (λ f. same KeyTooLong) (λ f.
      let r = free_standing_facts ws t b in
      let s = free_standing_facts ws G c in
      nested_honest ws ar honest t k G r.0 r.1 s.0 s.1 (eqb-false t G d) e (ltb-false longest_key (length k) f)))
      (λ e. same (KeyNotUtf8 (first_bad k)))))
      (λ c. same TableUnknown))
      (λ b. same TableUnknown))
      (λ a. same MemoryBroken)

  pub nest_honest : Honest (insert_table ws ar t k G).after.words (insert_table ws ar t k G).after.arena
  nest_honest = nest_consistent.honest
