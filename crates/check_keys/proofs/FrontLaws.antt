-- A front of a key that reads: its bytes in the item's fragment, and the same front further up.
use Rattle.std.specs.Prelude.{Result, Ok, Err, Option, Some, None}
use Prim.Native.Nat.{ℕ, ◌+◌, ◌-◌, ◌≤◌, ◌<◌}
use mathlib.Core.Path.{◌≡◌, refl, sym, ap, ◌∙◌, subst}
use mathlib.Core.List.{List, ◌++◌}
use mathlib.Core.Bool.{Bool, true, false}
use native.Mathlib.Omega.{arith}
use lib.ListN.{length, take, drop, length-append}
use lib.Seq.{take-append-le, length-take-le}
use lib.Dec.{ltb}
use borrow.Author.Tests.{ltb-true, ltb-false}
use Rattle.words.specs.Store.{part}
use Rattle.words.proofs.ChoiceLaws.{pick_with}
use Rattle.words.proofs.StoreLaws.{part-part}
use Rattle.key_order.specs.Compare.{same_bytes}
use Rattle.layout.specs.declared.refusal.Refusal.{Refusal}
use Rattle.layout.specs.declared.table.Table.{Table}
use Rattle.layout.specs.Item.{item_at}
use Rattle.read_chain.specs.Chain.{Joined, append, join_step, key_of, climb_from, parent_of, fragment_of}
use Rattle.read_listing.specs.Listing.{measure}
use Rattle.read_chain.proofs.ChainLaws.{Climbs, climb_or, StepFits, climb_fits, key_turn, key_over, fragment_size}
use Rattle.read_listing.proofs.WriteLaws.{above, joined_above, size_is}
use Rattle.check_keys.specs.declared.front.Front.{Front}
use Rattle.check_hash.specs.Key.{bytes_of, Keyed}
use Rattle.check_keys.specs.Front.{front_at, front_bytes, FrontFits, Raised}
use Rattle.check_hash.proofs.KeyLaws.{sized_bytes}
use Rattle.check_keys.proofs.PartLaws.{part-tail}

-- ---- a parent that is an item

unfoldable UpBelow : ℕ → Result (Option ℕ) Refusal → Type 0
UpBelow count (Ok None) = Unit
UpBelow count (Ok (Some parent)) = parent < count
UpBelow count (Err why) = Unit

pub parent_below : (count parent : ℕ) {p : ℕ} → parent_of count parent ≡ Ok (Some p) → p < count
unfolding parent_of UpBelow
parent_below count parent e =
    subst (UpBelow count) e (pick_with (UpBelow count) _ _ _ (λ _. tt) (λ _. pick_with (UpBelow count) _ _ _ (λ h. ltb-true _ _ h) (λ _. tt)))

-- ---- a key of n bytes is what stands above, and the item's fragment

record Split (j : Joined) (f : List ℕ) (n : ℕ) : Type 0 where
  pub bytes : bytes_of (append j f) ≡ bytes_of j ++ f
  pub fits : length f ≤ n
  pub sized : measure j ≡ Ok (n - length f)

split : (j : Joined) (f : List ℕ) (n : ℕ) → measure (append j f) ≡ Ok n → Split j f n
unfolding measure append bytes_of
split (Joined.broken why) f n e = let z : ◌≡◌ {A = ℕ} 0 1 = cc in absurd (omega arith)
split (Joined.joined k) f n e =
    let all : length (k ++ f) ≡ n = size_is _ _ e in
    let sum : length k + length f ≡ n = sym (length-append k f) ∙ all in
    let m : length k ≡ n - length f = omega arith in
    record { bytes = refl; fits = omega arith; sized = ap Ok m }

module _ (file : List ℕ) (t : Table) (left at n : ℕ) (sized : measure (key_of file t left at) ≡ Ok n) where
  some_left : 0 < left
  unfolding measure
  some_left = by_test (ltb 0 left) refl
    where
      by_test : (q : Bool) → ltb 0 left ≡ q → 0 < left
      by_test true e = ltb-true 0 left e
      by_test false e =
          let z : Err _ ≡ Ok n = sym (ap measure (key_over file t left at (ltb-false 0 left e))) ∙ sized in
          let y : ◌≡◌ {A = ℕ} 0 1 = cc in
          absurd (omega arith)

  climbs : Climbs file t.count (item_at file t at) (climb_from file t.count (item_at file t at))
  unfolding measure join_step
  climbs = climb_or file t.count (item_at file t at) (λ why e.
      let z : Err why ≡ Ok n = sym (ap measure (key_turn file t left at (item_at file t at) _ some_left refl e)) ∙ sized in
      let y : ◌≡◌ {A = ℕ} 0 1 = cc in
      omega arith)

  abbrev above_at : Joined
  above_at = above (parent_of t.count (item_at file t at).parent) (λ parent. key_of file t (left - 1) parent)

  key_is : key_of file t left at ≡ append above_at (fragment_of file (item_at file t at))
  key_is = key_turn file t left at (item_at file t at) _ some_left refl climbs.is ∙ joined_above _ _ _

  parts : Split above_at (fragment_of file (item_at file t at)) n
  parts = split _ _ n (sym (ap measure key_is) ∙ sized)

  fragment_long : length (fragment_of file (item_at file t at)) ≡ (item_at file t at).size
  fragment_long = fragment_size file (item_at file t at) climbs.inside

  size_within : (item_at file t at).size ≤ n
  size_within = omega (arith, fragment_long, parts.fits)

-- ---- a front

module _ (file : List ℕ) (t : Table) {p : Front} (fitting : FrontFits file t p) where
  abbrev whole : ℕ
  whole = p.size + ((item_at file t p.at).size - p.rest)

  key_parts : Split (above_at file t p.left p.at whole fitting.sized) (fragment_of file (item_at file t p.at)) whole
  key_parts = parts file t p.left p.at whole fitting.sized

  joined_long : length (fragment_of file (item_at file t p.at)) ≡ (item_at file t p.at).size
  joined_long = fragment_long file t p.left p.at whole fitting.sized

  above_sized : measure (above_at file t p.left p.at whole fitting.sized) ≡ Ok (p.size - p.rest)
  above_sized =
      let e : whole - length (fragment_of file (item_at file t p.at)) ≡ p.size - p.rest = omega (arith, joined_long, fitting.short) in
      key_parts.sized ∙ ap Ok e

  front_is : front_bytes file t p ≡ take p.size (bytes_of (above_at file t p.left p.at whole fitting.sized) ++ fragment_of file (item_at file t p.at))
  unfolding front_bytes
  front_is =
      ap (λ (j : Joined). take p.size (bytes_of j)) (key_is file t p.left p.at whole fitting.sized) ∙ ap (take p.size) key_parts.bytes

  pub front_long : length (front_bytes file t p) ≡ p.size
  unfolding front_bytes
  front_long =
      let long : length (bytes_of (key_of file t p.left p.at)) ≡ whole = sized_bytes _ fitting.sized in
      length-take-le p.size _ (omega arith)

  pub fragment_inside : (item_at file t p.at).key + (item_at file t p.at).size ≤ length file
  fragment_inside = (climbs file t p.left p.at whole fitting.sized).inside

  pub left_some : 0 < p.left
  left_some = some_left file t p.left p.at whole fitting.sized

  -- the last bytes of a front, in the item's fragment, as the code takes them
  pub stretch_is : (n : ℕ) → n ≤ p.rest → part (front_bytes file t p) (p.size - n) n ≡ part file ((item_at file t p.at).key + p.rest - n) n
  unfolding fragment_of
  stretch_is n few =
      let f = fragment_of file (item_at file t p.at) in
      let a = bytes_of (above_at file t p.left p.at whole fitting.sized) in
      let from : (item_at file t p.at).key + (p.rest - n) ≡ (item_at file t p.at).key + p.rest - n = omega arith in
      ap (λ (l : List ℕ). part l (p.size - n) n) front_is
      ∙ part-tail a f p.size p.rest n (sized_bytes _ above_sized) fitting.within few
      ∙ part-part file (item_at file t p.at).key (item_at file t p.at).size (p.rest - n) n (omega (arith, fitting.short))
      ∙ ap (λ (i : ℕ). part file i n) from

  -- a stretch, with the fragment's start as the code has it
  module _ {key : ℕ} (is : key ≡ (item_at file t p.at).key) where
    pub stretch_inside : key + p.rest ≤ length file
    stretch_inside = omega (arith, fragment_inside, fitting.short)

    pub stretch_same : (n end : ℕ) → n ≤ p.rest → n ≤ end
        → same_bytes (take (key + p.rest - (key + p.rest - n)) (drop (key + p.rest - n) file)) (take (end - (end - n)) (drop (end - n) file))
        ≡ same_bytes (part (front_bytes file t p) (p.size - n) n) (part file (end - n) n)
    stretch_same n end few ends =
        let mine : key + p.rest - (key + p.rest - n) ≡ n = omega arith in
        let yours : end - (end - n) ≡ n = omega arith in
        rw (mine, yours, stretch_is n few, is)

  -- the same front further up
  module _ (used : p.rest ≡ 0) where
    above_all : measure (above_at file t p.left p.at whole fitting.sized) ≡ Ok p.size
    above_all = let e : p.size - p.rest ≡ p.size = omega arith in above_sized ∙ ap Ok e

    pub raise_root : 0 < p.size → parent_of t.count (item_at file t p.at).parent ≡ Ok None → ⊥
    unfolding above measure
    raise_root some e =
        let z : Ok 0 ≡ Ok p.size = rw e at above_all in
        let y : 0 ≡ p.size = size_is _ _ z in
        omega arith

    pub raise_refused : {why : Refusal} → parent_of t.count (item_at file t p.at).parent ≡ Err why → ⊥
    unfolding above measure
    raise_refused {why} e =
        let z : Err why ≡ Ok p.size = rw e at above_all in
        let y : ◌≡◌ {A = ℕ} 0 1 = cc in
        omega arith

    module _ {parent : ℕ} (e : parent_of t.count (item_at file t p.at).parent ≡ Ok (Some parent)) where
      parent_sized : measure (key_of file t (p.left - 1) parent) ≡ Ok p.size
      unfolding above
      parent_sized = rw e at above_all

      parent_front : front_bytes file t p ≡ take p.size (bytes_of (key_of file t (p.left - 1) parent))
      unfolding above
      parent_front =
          let a = bytes_of (above_at file t p.left p.at whole fitting.sized) in
          let long : length a ≡ p.size = sized_bytes _ above_all in
          front_is ∙ take-append-le p.size a _ (omega arith)
          ∙ ap (λ (s : Result (Option ℕ) Refusal). take p.size (bytes_of (above s (λ q. key_of file t (p.left - 1) q)))) e

      pub raise_up : {q : Front} → q ≡ front_at file t parent p.size (p.left - 1) → Raised file t p q
      unfolding front_at front_bytes StepFits
      raise_up {q} is =
          let below : parent < t.count = (subst (StepFits file t.count (item_at file t p.at)) ((climbs file t p.left p.at whole fitting.sized).is ∙ e) (climb_fits file t.count (item_at file t p.at))).1 in
          let none-gone : p.size + ((item_at file t parent).size - (item_at file t parent).size) ≡ p.size = omega arith in
          let z : Raised file t p (front_at file t parent p.size (p.left - 1)) = record {
            fitting = record {
              below = below;
              sized = parent_sized ∙ ap Ok (sym none-gone);
              short = omega arith;
              within = size_within file t (p.left - 1) parent p.size parent_sized;
            };
            level = refl;
            higher = omega (arith, left_some);
            front = sym parent_front;
          } in
          subst (Raised file t p) (sym is) z

-- what `same_stretch` and `raise` need
pub ruleset stretch_says = (stretch_inside, stretch_same)

pub ruleset raise_says = (left_some, parent_below, raise_root, raise_refused)

-- the front that is an item's whole joined key
pub fitting_start : (file : List ℕ) (t : Table) {index size : ℕ} → Keyed file t index size → FrontFits file t (front_at file t index size t.count)
unfolding front_at
fitting_start file t {index} {size} k =
    let none-gone : size + ((item_at file t index).size - (item_at file t index).size) ≡ size = omega arith in
    record {
      below = k.below;
      sized = k.sized ∙ ap Ok (sym none-gone);
      short = omega arith;
      within = size_within file t t.count index size k.sized;
    }
