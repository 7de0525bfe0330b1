-- Passing over a stretch of the file: one turn, the loop, and what it says of the front.
use Rattle.std.specs.Prelude.{Ok, Some, None}
use Prim.Native.Nat.{ℕ, ◌+◌, ◌-◌, ◌≤◌, ◌<◌}
use mathlib.Core.Path.{◌≡◌, refl, sym, ap, ◌∙◌}
use mathlib.Core.List.{List, ◌++◌}
use mathlib.Core.Bool.{Bool, true, false}
use native.Mathlib.Omega.{arith}
use lib.ListN.{length, take}
use lib.Seq.{take-take}
use Rattle.words.specs.Store.{part}
use Rattle.words.proofs.StoreLaws.{length_part, part-part}
use Rattle.key_order.specs.Compare.{same_bytes, ends_at}
use Rattle.key_order.proofs.CompareLaws.{same_equal, ends_short}
use Rattle.layout.specs.declared.table.Table.{Table}
use Rattle.layout.specs.Item.{item_at}
use Rattle.check_keys.specs.declared.front.Front.{Front}
use Rattle.check_keys.specs.Front.{front_bytes, FrontFits, Raised, StretchPassed, BackPassed}
use Rattle.check_keys.proofs.PartLaws.{part_front, part_join, ends_part, ends_differs}

-- ---- one turn

module _ (file : List ℕ) (t : Table) {p : Front} (from end : ℕ) where
  pub some_raised : {q : Front} → Raised file t p q → StretchPassed file t p from end (Some q)
  unfolding StretchPassed front_bytes
  some_raised {q} r =
      let none : p.size - q.size ≡ 0 = omega (arith, r.level) in (
        record {
          fitting = r.fitting;
          fewer = omega (arith, r.level);
          nearer = omega (arith, r.level, r.higher);
          front = sym (take-take q.size q.size _ (omega arith)) ∙ ap (take q.size) r.front;
          same = rw none;
        },
        omega arith,
      )

  module _ (fitting : FrontFits file t p) (n : ℕ) (few : n ≤ p.rest) where
    -- the front with n bytes fewer
    abbrev back : Front
    back = record { at = p.at; rest = p.rest - n; size = p.size - n; left = p.left }

    back_fitting : FrontFits file t back
    back_fitting =
        let e : p.size + ((item_at file t p.at).size - p.rest) ≡ p.size - n + ((item_at file t p.at).size - (p.rest - n)) = omega (arith, fitting.short, fitting.within) in
        record {
          below = fitting.below;
          sized = fitting.sized ∙ ap Ok e;
          short = omega (arith, fitting.short);
          within = omega (arith, fitting.within);
        }

    module _ {told : Bool} (is : told ≡ same_bytes (part (front_bytes file t p) (p.size - n) n) (part file (end - n) n)) (room : n ≤ end - from) where
      pub some_passed : 0 < n → told ≡ true → StretchPassed file t p from end (Some back)
      unfolding StretchPassed front_bytes
      some_passed some e =
          let passed : p.size - (p.size - n) ≡ n = omega (arith, fitting.within) in (
            record {
              fitting = back_fitting;
              fewer = omega arith;
              nearer = omega (arith, fitting.within);
              front = sym (take-take (p.size - n) p.size _ (omega arith));
              same = rw passed (same_equal _ _ (sym is ∙ e));
            },
            omega (arith, passed),
          )

      pub some_differs : told ≡ false → StretchPassed file t p from end None
      unfolding StretchPassed
      some_differs e = (n, room, sym is ∙ e)

-- what `pass_some` needs
pub ruleset turn_says = (some_raised, some_passed, some_differs)

-- the counts of a turn: the front has d bytes fewer, and so has what is left of the stretch
low_turn : (d from end : ℕ) → d ≤ end - from → from ≤ end → (d ≤ end) × (from ≤ end - d)
low_turn d from end room low = omega arith

even_turn : (p h n to end d : ℕ) → n + d ≡ h → h + to ≡ p + end → d ≤ end → n + to ≡ p + (end - d)
even_turn p h n to end d up even fits = omega arith

gone_turn : (d end to : ℕ) → d ≤ end → end ≤ to → (to - (end - d) ≡ d + (to - end)) × (end - d + d ≡ end)
gone_turn d end to fits high = omega arith

-- ---- the loop: the present front, and behind it the bytes of the file from `end` to `to`, are the front at the start

pub record Passing (file : List ℕ) (t : Table) (p : Front) (from to : ℕ) (here : Front) (end : ℕ) : Type 0 where
  pub fitting : FrontFits file t here
  pub low : from ≤ end
  pub high : end ≤ to
  pub enough : to - from ≤ p.size
  pub even : here.size + to ≡ p.size + end
  pub front : front_bytes file t here ≡ take here.size (front_bytes file t p)
  pub same : part (front_bytes file t p) here.size (p.size - here.size) ≡ part file end (to - end)

module _ (file : List ℕ) (t : Table) (p : Front) (from to : ℕ) where
  pub pass_start : FrontFits file t p → from ≤ to → to - from ≤ p.size → Passing file t p from to p to
  unfolding front_bytes
  pass_start fitting ordered enough =
      let none : p.size - p.size ≡ 0 = omega arith in
      let nothing : to - to ≡ 0 = omega arith in
      record {
        fitting = fitting;
        low = ordered;
        high = omega arith;
        enough = enough;
        even = refl;
        front = sym (take-take p.size p.size _ (omega arith));
        same = rw (none, nothing);
      }

  pub pass_short : to ≤ length file → p.size < to - from → BackPassed file t p (part file from (to - from)) None
  unfolding BackPassed
  pass_short inside short = by_order (omega arith)
    where
      by_order : from + (to - from) ≤ length file → ends_at (front_bytes file t p) p.size (part file from (to - from)) ≡ false
      by_order l = ends_short _ _ _ (omega (arith, length_part file from (to - from) l))

  module _ {here : Front} {end : ℕ} (i : Passing file t p from to here end) where
    pub pass_room : end - from ≤ here.size
    pass_room = omega (arith, i.even, i.low, i.high, i.enough)

    pub pass_turn : {next : Front} → StretchPassed file t here from end (Some next)
        → Passing file t p from to next (end - (here.size - next.size))
    unfolding StretchPassed
    pass_turn {next} (m, room) =
        let d = here.size - next.size in
        let e = p.size - here.size in
        let all : p.size - next.size ≡ d + e = omega (arith, m.fewer, i.even, i.high) in
        let up : next.size + d ≡ here.size = omega (arith, m.fewer) in
        let low = low_turn d from end room i.low in
        let gone = gone_turn d end to low.0 i.high in
        let mine : part (front_bytes file t p) next.size d ≡ part file (end - d) d =
        sym (ap (λ (l : List ℕ). part l next.size d) i.front ∙ part_front (front_bytes file t p) here.size next.size d (omega (arith, m.fewer))) ∙ m.same in
        record {
          fitting = m.fitting;
          low = low.1;
          high = omega (arith, i.high);
          enough = i.enough;
          even = even_turn _ _ _ _ _ _ up i.even low.0;
          front = m.front ∙ ap (take next.size) i.front ∙ take-take next.size here.size _ m.fewer;
          same =
              ap (λ (k : ℕ). part (front_bytes file t p) next.size k) all
              ∙ part_join (front_bytes file t p) next.size d e
              ∙ ap (λ (l : List ℕ). l ++ part (front_bytes file t p) (next.size + d) e) mine
              ∙ ap (λ (k : ℕ). part file (end - d) d ++ part (front_bytes file t p) k e) up
              ∙ ap (λ (l : List ℕ). part file (end - d) d ++ l) i.same
              ∙ ap (λ (k : ℕ). part file (end - d) d ++ part file k (to - end)) (sym gone.1)
              ∙ sym (part_join file (end - d) d (to - end))
              ∙ ap (λ (k : ℕ). part file (end - d) k) (sym gone.0);
        }

    -- the bytes passed over are there, and fewer steps or bytes are left
    pub pass_less : (next : Front) → StretchPassed file t here from end (Some next)
        → (next.size ≤ here.size) × (here.size - next.size ≤ end) × (next.left + next.size < here.left + here.size)
    unfolding StretchPassed
    pass_less next (m, room) = (m.fewer, omega (arith, room, i.low), m.nearer)

    module _ (inside : to ≤ length file) where
      frag_long : length (part file from (to - from)) ≡ to - from
      frag_long = length_part file from (to - from) (omega (arith, inside, i.low, i.high))

      pub pass_over : end ≤ from → BackPassed file t p (part file from (to - from)) (Some here)
      unfolding BackPassed
      pass_over done =
          let last : end ≡ from = omega (arith, i.low) in
          let size : here.size ≡ p.size - length (part file from (to - from)) = omega (arith, frag_long, i.even, i.low, i.high) in
          let gap : p.size - here.size ≡ length (part file from (to - from)) = omega (arith, frag_long, i.even, i.low, i.high) in
          let same : part (front_bytes file t p) (p.size - length (part file from (to - from))) (length (part file from (to - from))) ≡ part file from (to - from) =
          ap (λ (k : ℕ). part (front_bytes file t p) k (length (part file from (to - from)))) (sym size)
          ∙ ap (λ (k : ℕ). part (front_bytes file t p) here.size k) (sym gap)
          ∙ i.same ∙ ap (λ (k : ℕ). part file k (to - k)) last in
          (i.fitting, size, i.front, ends_part _ _ _ (omega (arith, frag_long, i.enough)) same)

      pub pass_differs : StretchPassed file t here from end None → BackPassed file t p (part file from (to - from)) None
      unfolding StretchPassed BackPassed
      pass_differs (n, few, other) =
          let f = part file from (to - from) in
          let at = end - n - from in
          let mine : part (front_bytes file t here) (here.size - n) n ≡ part (front_bytes file t p) (p.size - length f + at) n =
          let front : here.size - n ≡ p.size - length f + at = omega (arith, frag_long, i.even, i.low, i.high, i.enough) in
          ap (λ (l : List ℕ). part l (here.size - n) n) i.front
          ∙ part_front (front_bytes file t p) here.size (here.size - n) n (omega (arith, i.even, i.low, i.high, i.enough))
          ∙ ap (λ (k : ℕ). part (front_bytes file t p) k n) front in
          let yours : part file (end - n) n ≡ part f at n =
          let front : end - n ≡ from + at = omega (arith, i.low) in
          ap (λ (k : ℕ). part file k n) front ∙ sym (part-part file from (to - from) at n (omega (arith, i.low, i.high))) in
          ends_differs (front_bytes file t p) p.size f at n (omega (arith, frag_long, i.enough)) (omega (arith, frag_long, i.low, i.high))
          (rw (mine, yours) at other)

-- what `pass_back` needs
pub ruleset loop_says = (pass_start, pass_short, pass_room, pass_less, pass_over, pass_differs)
