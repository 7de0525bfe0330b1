-- An insert keeps memory good.
use Rattle.std.specs.Prelude.{Ok, Err, Some, None}
use Rattle.model.specs.Inserted.{Inserted}
use Prim.Native.Nat.{ℕ, ◌+◌, ◌-◌, ◌≤◌, ◌<◌}
use native.Mathlib.Omega.{arith}
use native.Mathlib.Decide.{dec_lt}
use mathlib.Core.Path.{◌≡◌, refl, sym, ap, ◌∙◌, subst}
use mathlib.Core.Bool.{Bool, true, false}
use mathlib.Core.List.{List}
use borrow.Author.Tests.{ltb-true, ltb-false}
use lib.Dec.{ltb}
use lib.ListN.{length, take, get_or}
use lib.Seq.{take_all, length-take-le, take-take, get_or-take}
use Rattle.words.specs.Choice.{pick}
use Rattle.text.specs.Utf8.{is_utf8}
use Rattle.key_order.specs.Prefix.{ends_past, next_end}
use Rattle.key_order.proofs.PrefixLaws.{next_within, next_rises}
use Rattle.layout.specs.declared.kind.Kind.{Kind}
use Rattle.layout.specs.declared.refusal.Refusal.{Refusal}
use Rattle.build_memory.specs.Memory.{table_total, item_total, room_used, table_separator, item_kind, memory, Outcome, outcome}
use Rattle.build_memory.specs.Find.{find_key}
use Rattle.build_memory.specs.Item.{Stored, kind_of, replace_item}
use Rattle.build_values.specs.declared.walk.Way.{Way}
use Rattle.build_values.specs.Walk.{way_of, sum}
use Rattle.build_values.specs.Insert.{containers, refused, added, insert_new, overwrite, insert_or_replace, insert_below_path}
use Rattle.layout.specs.Limits.{longest_key, most_items}
use Rattle.history.specs.Items.{item, item_of, Table}
use Rattle.history.specs.Consistent.{Consistent}
use Rattle.history.specs.Honest.{Good}
use Rattle.history.proofs.TidySearch.{false-true}
use Rattle.history.proofs.TidyMade as made
use Rattle.history.proofs.TidyReplaced as old
use Rattle.history.proofs.Consistent.{NewItem, consistent_set}
use Rattle.history.proofs.WayDown.{end_sep, Missing, OnWay, way_consistent, item_found, item_missing}
use Rattle.history.proofs.GoodContainers.{Lows, lows_two, made_good, At, Fit, new_item, grown}

-- an answer that is no refusal
take_all' : (k : List ℕ) → take (length k) k ≡ k
take_all' k = take_all (length k) k (omega arith)

abbrev pub accepted : Inserted → Bool
accepted (Ok _) = true
accepted (Err why) = false

-- ---- what a call leaves: good memory where it is accepted, the same memory where it is refused
pub record After (g : ℕ → Table) (ws ar : List ℕ) (t : ℕ) (k : List ℕ) (c : Stored) (o : Outcome Inserted) : Type 0 where
  pub good : accepted o.answer ≡ true → Good g o.after.words o.after.arena
  pub lows : Lows ws o.after.words
  pub same : accepted o.answer ≡ false → o.after ≡ memory ws ar

module _ (g : ℕ → Table) (ws ar : List ℕ) (t : ℕ) (k : List ℕ) (c : Stored) where
  pub after_refused : (why : Refusal) → After g ws ar t k c (refused why ws ar)
  after_refused why = record { good = λ z. false-true z; lows = λ p l a b. refl; same = λ z. refl }

  -- past a refusal that is answered where a test holds, or where it fails
  pub after_not : (b : Bool) (why : Refusal) (o : Outcome Inserted) → (b ≡ false → After g ws ar t k c o) → After g ws ar t k c (pick b (refused why ws ar) o)
  unfolding pick
  after_not true why o f = after_refused why
  after_not false why o f = f refl

  pub after_where : (b : Bool) (why : Refusal) (o : Outcome Inserted) → (b ≡ true → After g ws ar t k c o) → After g ws ar t k c (pick b o (refused why ws ar))
  unfolding pick
  after_where true why o f = f refl
  after_where false why o f = after_refused why

module _ (g : ℕ → Table) (ws ar : List ℕ) (t : ℕ) (k : List ℕ) (G : ℕ) (sep-is : (g t).sep ≡ table_separator ws t) (loose : (g t).placed ≡ 1 → ⊥) (text : is_utf8 k ≡ true)
    (short : length k ≤ longest_key) (c : Stored) where
  abbrev Here : ℕ → ℕ → Type 0
  Here parent from = At g t k (table_separator ws t) G sep-is loose text short ws ar parent from

  abbrev Fits : ℕ → Type 0
  Fits T = Fit g t k (table_separator ws t) G sep-is loose text short T c

  -- ---- a new item
  new_good : (parent from : ℕ) → Here parent from → Missing (item_total ws) (item_of ws ar) t k → Fits (table_total ws) → item_total ws + length (ends_past (table_separator ws t) k from) ≤ most_items
      → room_used ws + sum (ends_past (table_separator ws t) k from) + length c.value ≤ length ar
      → After g ws ar t k c (outcome (Ok None) (added (containers t k (ends_past (table_separator ws t) k from) (memory ws ar) parent) t k c))
  unfolding added
  new_good parent from at missing fit few room =
      let l = containers t k (ends_past (table_separator ws t) k from) (memory ws ar) parent in
      let gr = grown g t k (table_separator ws t) G sep-is loose text short ws ar parent from at few (omega arith) in
      let w = l.after.words in
      let a = l.after.arena in
      let here = gr.at in
      let count = gr.count in
      let used = gr.used in
      let size = gr.arena in
      let few' : item_total w < most_items = omega arith in
      let room' : room_used w + length k + length c.value ≤ length a = omega arith in
      let top : length k ≡ next_end (table_separator ws t) k gr.end = omega (arith, gr.last, (next_within (table_separator ws t) k gr.end here.above.within).1) in
      let fit' : Fits (table_total w) = subst (λ (T : ℕ). Fits T) (sym (lows_two ws w gr.lows)) fit in
      let new = subst (λ (key : List ℕ). NewItem (table_total w) (item_total w) g (item_of w a) (item t key l.parent c.kind c.value c.guest)) (take_all' k)
      (new_item g t k (table_separator ws t) G sep-is loose text short w a l.parent gr.end here (length k) top here.proper (ap is_utf8 (take_all' k) ∙ text) c fit') in
      record {
        good = λ z. made_good g w a t l.parent k c here.good few' room' new;
        lows = λ p b x y. made.made_table_word w a t l.parent k c here.good.tidy few' room' p b x y ∙ gr.lows p b x y;
        same = λ z. false-true (sym z);
      }

  new_after : (parent from : ℕ) → Here parent from → Missing (item_total ws) (item_of ws ar) t k → Fits (table_total ws) → After g ws ar t k c (insert_new ws ar t k c from parent)
  unfolding insert_new
  new_after parent from at missing fit =
      after_not g ws ar t k c _ _ _ (λ few. after_not g ws ar t k c _ _ _ (λ room. new_good parent from at missing fit (ltb-false _ _ few) (ltb-false _ _ room)))

  -- ---- an item that is there
  module _ (good : Good g ws ar) (fit : Fits (table_total ws)) (free : (i : ℕ) → i < item_total ws → (item_of ws ar i).kind ≡ 72 → (item_of ws ar i).guest ≡ G → ⊥)
      (i : ℕ) (there : i < item_total ws) (of_table : (item_of ws ar i).table ≡ t) (has_key : (item_of ws ar i).key ≡ k) where
    its_item : room_used ws + length c.value ≤ length ar
        → item_of (replace_item (memory ws ar) i c).words (replace_item (memory ws ar) i c).arena i
        ≡ item (item_of ws ar i).table (item_of ws ar i).key (item_of ws ar i).parent c.kind c.value c.guest
    unfolding item_of
    its_item room = old.old_item ws ar i c good.tidy there room

    old_good : (was : Kind) → was ≡ kind_of (item_of ws ar i).kind → room_used ws + length c.value ≤ length ar → After g ws ar t k c (outcome (Ok (Some was)) (replace_item (memory ws ar) i c))
    old_good was kind_is room =
        let m = replace_item (memory ws ar) i c in
        let f = item_of ws ar in
        let e3 = old.old_three ws ar i c good.tidy there room in
        let lows = old.old_table_word ws ar i c good.tidy there room in
        record {
          good = λ z. record {
            tidy = old.old_tidy ws ar i c good.tidy there room;
            consistent =
                subst (λ (T : ℕ). Consistent T (item_total m.words) g (item_of m.words m.arena)) (sym (lows_two ws m.words lows))
                (subst (λ (n : ℕ). Consistent (table_total ws) n g (item_of m.words m.arena)) (sym e3)
                (consistent_set (table_total ws) (item_total ws) g f (item_of m.words m.arena) i c.kind c.value c.guest good.consistent there
                (old.else_item ws ar i c good.tidy there room) (its_item room)
                (record {
                  loose = λ p. loose (ap (λ (x : ℕ). (g x).placed) (sym of_table) ∙ p);
                  kind = fit.kind;
                  guest = λ e. let h = fit.guest e in (h.1, h.2, h.3);
                  free = λ e j l a b. free j l a (b ∙ (fit.guest e).0);
                })));
          };
          lows = lows;
          same = λ z. false-true (sym z);
        }

    kind_word : (j : ℕ) → kind_of (item_kind ws j) ≡ kind_of (item_of ws ar j).kind
    unfolding item_of
    kind_word j = refl

    old_after : After g ws ar t k c (overwrite ws ar i c)
    unfolding overwrite
    old_after = after_not g ws ar t k c _ _ _ (λ room. old_good _ (kind_word i) (ltb-false _ _ room))

  -- ---- along the way
  module _ (good : Good g ws ar) (known : t < table_total ws) (fit : Fits (table_total ws))
      (free : (i : ℕ) → i < item_total ws → (item_of ws ar i).kind ≡ 72 → (item_of ws ar i).guest ≡ G → ⊥) where
    -- behind a container that is missing, all is missing
    pub gone_far : (from e0 : ℕ) → from ≤ length k → from < e0 → e0 ≡ next_end (table_separator ws t) k from → e0 < length k → Missing (item_total ws) (item_of ws ar) t (take e0 k)
        → (e : ℕ) → e0 < e → e ≤ length k → Missing (item_total ws) (item_of ws ar) t (take e k)
    gone_far from e0 h up is u missing e l top i below a b =
        let size : length (item_of ws ar i).key ≡ e = ap length b ∙ length-take-le e k top in
        let at-sep : get_or (item_of ws ar i).key (e0 - 1) 0 ≡ (g (item_of ws ar i).table).sep =
        ap (λ (x : List ℕ). get_or x (e0 - 1) 0) b ∙ get_or-take e k (e0 - 1) 0 (omega arith) ∙ end_sep (table_separator ws t) k from e0 h is up u ∙ sym sep-is ∙ ap (λ (x : ℕ). (g x).sep) (sym a) in
        let found = good.consistent.closed i below e0 (omega arith) (omega arith) at-sep in
        missing found.index found.below (found.of_table ∙ a) (found.has_key ∙ ap (take e0) b ∙ take-take e0 e k (omega arith))

    pub gone_all : (w : Way) → OnWay (item_total ws) (item_of ws ar) t (table_separator ws t) k w → w.clear ≡ true → Missing (item_total ws) (item_of ws ar) t k
        → (e : ℕ) → next_end (table_separator ws t) k w.from ≤ e → e ≤ length k → Missing (item_total ws) (item_of ws ar) t (take e k)
    gone_all w on clear missing e l top = by_end (dec_lt (next_end (table_separator ws t) k w.from) (length k)) (dec_lt (next_end (table_separator ws t) k w.from) e)
      where
        by_end : Dec (next_end (table_separator ws t) k w.from < length k) → Dec (next_end (table_separator ws t) k w.from < e) → Missing (item_total ws) (item_of ws ar) t (take e k)
        by_end (yes u) (yes v) =
            gone_far w.from (next_end (table_separator ws t) k w.from) on.above.within (up u) refl u (on.next clear u) e v top
          where
            up : next_end (table_separator ws t) k w.from < length k → w.from < next_end (table_separator ws t) k w.from
            up u = next_rises (table_separator ws t) k w.from on.above.within (omega (arith, (next_within (table_separator ws t) k w.from on.above.within).0))
        by_end (yes u) (no v) =
            let z : next_end (table_separator ws t) k w.from ≡ e = omega arith in
            subst (λ (x : ℕ). Missing (item_total ws) (item_of ws ar) t (take x k)) z (on.next clear u)
        by_end (no u) v =
            let z : length k ≡ e = omega arith in
            subst (λ (x : ℕ). Missing (item_total ws) (item_of ws ar) t (take x k)) z (subst (Missing (item_total ws) (item_of ws ar) t) (sym (take_all' k)) missing)

    along_after : (w : Way) → OnWay (item_total ws) (item_of ws ar) t (table_separator ws t) k w → w.clear ≡ true → After g ws ar t k c (insert_or_replace ws ar t k c w.from w.parent)
    unfolding insert_or_replace pick
    along_after w on clear = by_find (ltb (find_key ws ar t k) (item_total ws)) refl
      where
        by_find : (q : Bool) → ltb (find_key ws ar t k) (item_total ws) ≡ q
            → After g ws ar t k c (pick q (overwrite ws ar (find_key ws ar t k) c) (insert_new ws ar t k c w.from w.parent))
        by_find true q =
            let l = ltb-true _ _ q in
            old_after good fit free (find_key ws ar t k) l (item_found ws ar good.tidy t k (find_key ws ar t k) refl l).0 (item_found ws ar good.tidy t k (find_key ws ar t k) refl l).1
        by_find false q =
            new_after w.parent w.from
            (record {
              good = good;
              known = known;
              chain = on.chain;
              above = on.above;
              proper = on.proper;
              gone = gone_all w on clear (item_missing ws ar good.tidy t k (ltb-false _ _ q));
              free = free;
            })
            (item_missing ws ar good.tidy t k (ltb-false _ _ q)) fit

    pub walked_after : (deep : Bool) → After g ws ar t k c (insert_below_path ws ar t k c deep)
    unfolding insert_below_path way_of
    walked_after deep =
        after_where g ws ar t k c _ _ _ (λ clear. after_not g ws ar t k c deep _ _
        (λ low. along_after _ (way_consistent ws ar good.tidy t (table_separator ws t) k) clear))
