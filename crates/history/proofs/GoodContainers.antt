-- The containers of a key are made, and memory stays good.
use Prim.Native.Nat.{ℕ, zero, suc, ◌+◌, ◌-◌, ◌≤◌, ◌<◌}
use native.Mathlib.Omega.{arith}
use native.Mathlib.Decide.{dec_lt}
use mathlib.Core.Path.{◌≡◌, refl, sym, ap, ◌∙◌, subst}
use mathlib.Core.Bool.{Bool, true, false}
use mathlib.Core.List.{List, [], ◌∷◌}
use borrow.Author.Tests.{eqb-true, eqb-false}
use lib.Dec.{eqb}
use lib.ListN.{length, take, get_or}
use lib.Seq.{length-take-le, take-take, get_or-take}
use Rattle.layout.specs.Limits.{deepest, longest_key, most_items}
use Rattle.text.specs.Utf8.{is_utf8}
use Rattle.key_order.specs.Prefix.{ends_past, next_end}
use Rattle.key_order.proofs.PrefixLaws.{next_within, next_rises}
use Rattle.text.proofs.Utf8Parts.{utf8_cut}
use Rattle.layout.specs.Kind.{kind_known, container_kind}
use Rattle.build_memory.specs.Memory.{word, table_total, item_total, room_used, Memory, memory}
use Rattle.build_memory.specs.Item.{Stored, stored, make_item}
use Rattle.build_memory.proofs.MadeLaws.{made_arena}
use Rattle.build_values.specs.Walk.{sum}
use Rattle.build_values.specs.Insert.{Extended, containers}
use Rattle.build_values.proofs.WalkLaws.{further, last, make_end, make_more}
use Rattle.history.specs.Items.{Item, item, item_of, Table}
use Rattle.history.specs.Consistent.{There, Above, Consistent}
use Rattle.history.specs.Honest.{Good}
use Rattle.history.proofs.Utf8Bytes.{byte_at, utf8_bytes}
use Rattle.history.proofs.TidyMade as made
use Rattle.history.proofs.Consistent.{there_on, NewItem, consistent_add}
use Rattle.history.proofs.WayDown.{gap, end_sep, Missing, Chain, chain_on}

sum_one : (n : ℕ) → sum (n ∷ []) ≡ n + 0
unfolding sum
sum_one n = refl

next_up : (sep : ℕ) (k : List ℕ) (e : ℕ) → e < length k → e < next_end sep k e
next_up sep k e h = next_rises sep k e (omega arith) (omega arith)

-- the words of the header and of the tables, the two counts left aside, are as they were
abbrev pub Lows : List ℕ → List ℕ → Type 0
Lows ws w = (p : ℕ) → p < 264 → (p ≡ 3 → ⊥) → (p ≡ 4 → ⊥) → word w p ≡ word ws p

pub lows_two : (ws w : List ℕ) → Lows ws w → table_total w ≡ table_total ws
lows_two ws w l = l 2 (omega arith) (λ (e : 2 ≡ 3). omega arith) (λ (e : 2 ≡ 4). omega arith)

-- ---- a new item that is consistent keeps memory good
pub made_good : (g : ℕ → Table) (ws ar : List ℕ) (t parent : ℕ) (k : List ℕ) (c : Stored) → Good g ws ar → item_total ws < most_items
    → room_used ws + length k + length c.value ≤ length ar
    → NewItem (table_total ws) (item_total ws) g (item_of ws ar) (item t k parent c.kind c.value c.guest)
    → Good g (make_item (memory ws ar) t parent k c).words (make_item (memory ws ar) t parent k c).arena
made_good g ws ar t parent k c good few room new =
    let m = make_item (memory ws ar) t parent k c in
    let tidy = good.tidy in
    let e3 = made.made_three ws ar t parent k c tidy few room in
    let e2 = lows_two ws m.words (made.made_table_word ws ar t parent k c tidy few room) in
    record {
      tidy = made.made_tidy ws ar t parent k c tidy few room;
      consistent =
          subst (λ (T : ℕ). Consistent T (item_total m.words) g (item_of m.words m.arena)) (sym e2)
          (subst (λ (n : ℕ). Consistent (table_total ws) n g (item_of m.words m.arena)) (sym e3)
          (consistent_add (table_total ws) (item_total ws) g (item_of ws ar) (item_of m.words m.arena) (item t k parent c.kind c.value c.guest) good.consistent
          (made.other_item ws ar t parent k c tidy few room) (made.its_item ws ar t parent k c tidy few room) few new));
    }

module _ (g : ℕ → Table) (t : ℕ) (k : List ℕ) (sep G : ℕ) (sep-is : (g t).sep ≡ sep) (loose : (g t).placed ≡ 1 → ⊥) (text : is_utf8 k ≡ true)
    (short : length k ≤ longest_key) where
  -- on the way: the containers up to `from` are there, and nothing from the next end on
  pub record At (ws ar : List ℕ) (parent from : ℕ) : Type 0 where
    pub good : Good g ws ar
    pub known : t < table_total ws
    pub chain : Chain (item_total ws) (item_of ws ar) t sep k from
    pub above : Above (item_total ws) (item_of ws ar) t k parent from
    pub proper : (j : ℕ) → parent ≡ suc j → from < length k
    pub gone : (e : ℕ) → next_end sep k from ≤ e → e ≤ length k → Missing (item_total ws) (item_of ws ar) t (take e k)
    pub free : (i : ℕ) → i < item_total ws → (item_of ws ar i).kind ≡ 72 → (item_of ws ar i).guest ≡ G → ⊥

  pub record Fit (T : ℕ) (c : Stored) : Type 0 where
    pub kind : kind_known c.kind ≡ true
    pub guest : c.kind ≡ 72 → (c.guest ≡ G) × (c.guest < T) × ((g c.guest).placed ≡ 1) × ((g c.guest).height < deepest)

  pub new_item : (ws ar : List ℕ) (parent from : ℕ) → At ws ar parent from → (e : ℕ) → e ≡ next_end sep k from → ((j : ℕ) → parent ≡ suc j → from < e) → is_utf8 (take e k) ≡ true → (c : Stored) → Fit (table_total ws) c
      → NewItem (table_total ws) (item_total ws) g (item_of ws ar) (item t (take e k) parent c.kind c.value c.guest)
  new_item ws ar parent from at e is proper good-text c fit =
      let f = item_of ws ar in
      let bounds = next_within sep k from at.above.within in
      let top : e ≤ length k = omega (arith, bounds.1) in
      let low : from ≤ e = omega (arith, bounds.0) in
      let size = length-take-le e k top in
      let no-sep : (x : ℕ) → from < x → x < e → get_or (take e k) (x - 1) 0 ≡ (g t).sep → ⊥ =
      λ x l u s. gap sep k from x l (omega arith) (sym (get_or-take e k (x - 1) 0 (omega arith)) ∙ s ∙ sep-is) in
      record {
        known = at.known;
        loose = loose;
        text = good-text;
        short = omega arith;
        key_bytes = utf8_bytes (take e k) good-text;
        kind = fit.kind;
        missing = at.gone e (omega arith) top;
        parent = record {
          from = from;
          above = record {
            within = omega arith;
            root = at.above.root;
            holds = λ j z. let h = at.above.holds j z in (h.0, h.1, h.2 ∙ sym (take-take from e k low));
          };
          proper = λ j z. let h = proper j z in omega arith;
          gap = λ x l u s. no-sep x l (omega arith) s;
        };
        closed = λ x p u s. closed_by at e is top size x p (omega arith) (sym (get_or-take e k (x - 1) 0 (omega arith)) ∙ s ∙ sep-is) (dec_lt from x);
        guest = λ z. let h = fit.guest z in (h.1, h.2, h.3);
        free = λ z i l a b. at.free i l a (b ∙ (fit.guest z).0);
      }
    where
      closed_by : At ws ar parent from → (e : ℕ) → e ≡ next_end sep k from → e ≤ length k → length (take e k) ≡ e → (x : ℕ) → 1 ≤ x → x < e → get_or k (x - 1) 0 ≡ sep → Dec (from < x)
          → There (item_total ws) (item_of ws ar) t (take x (take e k))
      closed_by at e is top size x p u s (yes l) = absurd (gap sep k from x l (omega arith) s)
      closed_by at e is top size x p u s (no l) =
          subst (There (item_total ws) (item_of ws ar) t) (sym (take-take x e k (omega arith))) (at.chain.there x p (omega arith) s)

  -- ---- one container more
  box_fit : (T : ℕ) → Fit T (stored container_kind [] 0)
  box_fit T = record { kind = refl; guest = λ (z : ◌≡◌ {A = ℕ} 76 72). absurd (omega arith) }

  module _ (ws ar : List ℕ) (parent from : ℕ) (at : At ws ar parent from) (e : ℕ) (is : e ≡ next_end sep k from) (more : e < length k)
      (few : item_total ws < most_items) (room : room_used ws + length (take e k) + 0 ≤ length ar) where
    abbrev m : Memory
    m = make_item (memory ws ar) t parent (take e k) (stored container_kind [] 0)

    abbrev box : Item
    box = item t (take e k) parent 76 [] 0

    rise : from < e
    rise = (further sep k from at.above.within e is more).rises

    same : (j : ℕ) → j < item_total ws → item_of m.words m.arena j ≡ item_of ws ar j
    same = made.other_item ws ar t parent (take e k) (stored container_kind [] 0) at.good.tidy few room

    own : item_of m.words m.arena (item_total ws) ≡ box
    own = made.its_item ws ar t parent (take e k) (stored container_kind [] 0) at.good.tidy few room

    abbrev same_place : (j : ℕ) → j < item_total ws → ((item_of m.words m.arena j).table ≡ (item_of ws ar j).table) × ((item_of m.words m.arena j).key ≡ (item_of ws ar j).key)
    same_place j l = (ap (λ (y : Item). y.table) (same j l), ap (λ (y : Item). y.key) (same j l))

    three : item_total m.words ≡ item_total ws + 1
    three = made.made_three ws ar t parent (take e k) (stored container_kind [] 0) at.good.tidy few room

    gone_by : (x : ℕ) → e < x → x ≤ length k → (i : ℕ) → i < item_total ws + 1 → (item_of m.words m.arena i).table ≡ t → (item_of m.words m.arena i).key ≡ take x k
        → (q : Bool) → eqb i (item_total ws) ≡ q → ⊥
    gone_by x l u i h a b true q =
        let f : item_of m.words m.arena i ≡ box = ap (item_of m.words m.arena) (eqb-true i (item_total ws) q) ∙ own in
        let z : take e k ≡ take x k = sym (ap (λ (y : Item). y.key) f) ∙ b in
        let le = length-take-le e k (omega arith) in
        let lx = length-take-le x k u in
        let w = ap length z in
        omega arith
    gone_by x l u i h a b false q =
        let ne = eqb-false i (item_total ws) q in
        let s = same i (omega arith) in
        at.gone x (omega arith) u i (omega arith) (ap (λ (y : Item). y.table) (sym s) ∙ a) (ap (λ (y : Item). y.key) (sym s) ∙ b)

    free_by : (i : ℕ) → i < item_total ws + 1 → (item_of m.words m.arena i).kind ≡ 72 → (item_of m.words m.arena i).guest ≡ G → (q : Bool) → eqb i (item_total ws) ≡ q → ⊥
    free_by i h a b true q =
        let f : item_of m.words m.arena i ≡ box = ap (item_of m.words m.arena) (eqb-true i (item_total ws) q) ∙ own in
        let z : ◌≡◌ {A = ℕ} 76 72 = sym (ap (λ (y : Item). y.kind) f) ∙ a in
        omega arith
    free_by i h a b false q =
        let ne = eqb-false i (item_total ws) q in
        let s = same i (omega arith) in
        at.free i (omega arith) (ap (λ (y : Item). y.kind) (sym s) ∙ a) (ap (λ (y : Item). y.guest) (sym s) ∙ b)

    -- the byte before the end is the separator, which is a byte below 128
    box_text : is_utf8 (take e k) ≡ true
    box_text =
        let at-sep : get_or k (e - 1) 0 ≡ sep = end_sep sep k from e at.above.within is rise more in
        let up = rise in
        let byte = byte_at k (e - 1) (utf8_bytes k text) (omega arith) in
        let low = at.good.consistent.seps t at.known (omega (arith, sep-is)) in
        let prev : suc (e - 1) ≡ e = omega arith in
        ap (λ (n : ℕ). is_utf8 (take n k)) (sym prev) ∙ utf8_cut k (e - 1) text (omega arith) (omega (arith, sep-is))

    pub boxed : At m.words m.arena (item_total ws + 1) e
    boxed =
        let e2 = lows_two ws m.words (made.made_table_word ws ar t parent (take e k) (stored container_kind [] 0) at.good.tidy few room) in
        record {
          good = made_good g ws ar t parent (take e k) (stored container_kind [] 0) at.good few room
              (new_item ws ar parent from at e is (λ j z. rise) box_text (stored container_kind [] 0) (box_fit (table_total ws)));
          known = let h = at.known in omega arith;
          chain = chain_on (item_total m.words) (item_of m.words m.arena) t sep k from e is
              (record { there = λ x p l s. there_on (item_total ws) (item_total m.words) (item_of ws ar) (item_of m.words m.arena) (omega (arith, three)) same_place t (take x k) (at.chain.there x p l s) })
              (record { index = item_total ws; below = omega (arith, three); of_table = ap (λ (y : Item). y.table) own; has_key = ap (λ (y : Item). y.key) own });
          above = record {
            within = omega arith;
            root = λ (z : item_total ws + 1 ≡ 0). absurd (omega arith);
            holds = λ j z. let d : item_total ws ≡ j = omega arith in
                subst (λ (y : ℕ). (y < item_total m.words) × ((item_of m.words m.arena y).table ≡ t) × ((item_of m.words m.arena y).key ≡ take e k)) d
                (omega (arith, three), ap (λ (y : Item). y.table) own, ap (λ (y : Item). y.key) own);
          };
          proper = λ j z. more;
          gone = λ x l u i h a b.
              let past : e < x = omega (arith, further_rise) in
              gone_by x past u i (subst (λ (n : ℕ). i < n) three h) a b (eqb i (item_total ws)) refl;
          free = λ i h a b. free_by i (subst (λ (n : ℕ). i < n) three h) a b (eqb i (item_total ws)) refl;
        }
      where
        further_rise : e < next_end sep k e
        further_rise = next_up sep k e more

  -- ---- all containers that are missing
  pub record Grown (ws ar : List ℕ) (from : ℕ) (l : Extended) : Type 0 where
    pub end : ℕ
    pub at : At l.after.words l.after.arena l.parent end
    pub last : length k ≤ next_end sep k end
    pub count : item_total l.after.words + 1 ≡ item_total ws + length (ends_past sep k from)
    pub used : room_used l.after.words + length k ≡ room_used ws + sum (ends_past sep k from)
    pub arena : length l.after.arena ≡ length ar
    pub lows : Lows ws l.after.words
    pub more : item_total ws ≤ item_total l.after.words
    pub kept : (j : ℕ) → j < item_total ws → item_of l.after.words l.after.arena j ≡ item_of ws ar j

  grown_step : (ws ar : List ℕ) (parent from : ℕ) → At ws ar parent from → item_total ws + length (ends_past sep k from) ≤ most_items
      → room_used ws + sum (ends_past sep k from) ≤ length ar
      → ((w a : List ℕ) (p f : ℕ) → from < f → At w a p f → item_total w + length (ends_past sep k f) ≤ most_items → room_used w + sum (ends_past sep k f) ≤ length a
      → Grown w a f (containers t k (ends_past sep k f) (memory w a) p))
      → Grown ws ar from (containers t k (ends_past sep k from) (memory ws ar) parent)
  grown_step ws ar parent from at few room ih = by_end (dec_lt (next_end sep k from) (length k))
    where
      by_end : Dec (next_end sep k from < length k) → Grown ws ar from (containers t k (ends_past sep k from) (memory ws ar) parent)
      by_end (yes u) =
          let e = next_end sep k from in
          let f = further sep k from at.above.within e refl u in
          let size = length-take-le e k (omega arith) in
          let m = make_item (memory ws ar) t parent (take e k) (stored container_kind [] 0) in
          let few' : item_total ws < most_items = omega arith in
          let room' : room_used ws + length (take e k) + 0 ≤ length ar = omega arith in
          let tidy = at.good.tidy in
          let three = made.made_three ws ar t parent (take e k) (stored container_kind [] 0) tidy few' room' in
          let four : room_used m.words ≡ room_used ws + length (take e k) + 0 = made.made_four ws ar t parent (take e k) (stored container_kind [] 0) tidy few' room' in
          let la = made_arena ws ar t parent (take e k) (stored container_kind [] 0) in
          let deep = ih m.words m.arena (item_total ws + 1) e f.rises (boxed ws ar parent from at e refl u few' room') (omega arith) (omega arith) in
          let dc = deep.count in
          let du = deep.used in
          let da = deep.arena in
          subst (Grown ws ar from) (sym (make_more sep k from at.above.within e refl t (memory ws ar) parent m u refl))
          (record {
            end = deep.end;
            at = deep.at;
            last = deep.last;
            count = omega arith;
            used = omega arith;
            arena = omega arith;
            lows = λ p l a b. deep.lows p l a b ∙ made.made_table_word ws ar t parent (take e k) (stored container_kind [] 0) tidy few' room' p l a b;
            more = let dm = deep.more in omega arith;
            kept = λ j l. deep.kept j (omega arith) ∙ made.other_item ws ar t parent (take e k) (stored container_kind [] 0) tidy few' room' j l;
          })
      by_end (no u) =
          let e = next_end sep k from in
          let ends = last sep k from at.above.within e refl (omega arith) in
          let top = next_within sep k from at.above.within in
          let number : length (ends_past sep k from) ≡ 1 = ap length ends in
          let total : sum (ends_past sep k from) ≡ e + 0 = ap sum ends ∙ sum_one e in
          subst (Grown ws ar from) (make_end sep k from at.above.within e refl t (memory ws ar) parent (omega arith))
          (record { end = from; at = at; last = omega arith; count = omega arith; used = omega arith; arena = refl; lows = λ p l a b. refl; more = omega arith; kept = λ j l. refl })

  grown_fuel : (fuel : ℕ) (ws ar : List ℕ) (parent from : ℕ) → length k ≤ from + fuel → At ws ar parent from → item_total ws + length (ends_past sep k from) ≤ most_items
      → room_used ws + sum (ends_past sep k from) ≤ length ar → Grown ws ar from (containers t k (ends_past sep k from) (memory ws ar) parent)
  grown_fuel zero ws ar parent from b at few room = grown_step ws ar parent from at few room (λ w a p f l z x y. absurd (let h = z.above.within in omega arith))
  grown_fuel (suc fuel) ws ar parent from b at few room = grown_step ws ar parent from at few room (λ w a p f l z x y. grown_fuel fuel w a p f (omega arith) z x y)

  pub grown : (ws ar : List ℕ) (parent from : ℕ) → At ws ar parent from → item_total ws + length (ends_past sep k from) ≤ most_items
      → room_used ws + sum (ends_past sep k from) ≤ length ar → Grown ws ar from (containers t k (ends_past sep k from) (memory ws ar) parent)
  grown ws ar parent from at few room = grown_fuel (length k) ws ar parent from (omega arith) at few room
