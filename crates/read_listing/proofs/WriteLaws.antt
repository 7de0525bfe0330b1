-- The loop that writes a measured key from its last fragment to its first: with a fragment written, the key above it is left to write.
use Rattle.std.specs.Prelude.{Result, Ok, Err, Option, Some, None}
use Prim.Native.Nat.{ℕ, ◌+◌, ◌-◌, ◌≤◌, ◌<◌}
use mathlib.Core.Path.{◌≡◌, refl, sym, ap, ◌∙◌, subst}
use mathlib.Core.List.{List, [], ◌++◌}
use native.Mathlib.Omega.{arith}
use native.Mathlib.Nat.{zero-add}
use lib.ListN.{length, take, drop, length-append}
use borrow.Author.Tests.{le-ltb}
use Rattle.words.specs.Choice.{pick}
use Rattle.words.specs.Store.{put_at}
use Rattle.words.proofs.ChoiceLaws.{pick_same}
use Rattle.words.proofs.StoreLaws.{put-none, length-put, put-append, put_comm}
use Rattle.layout.specs.declared.refusal.Refusal.{Refusal}
use Rattle.layout.specs.declared.refusal.Refusal.TheVariants.{ParentsEndless}
use Rattle.layout.specs.declared.table.Table.{Table}
use Rattle.layout.specs.declared.item.Item.{Item}
use Rattle.layout.specs.Item.{item_at}
use Rattle.read_chain.specs.Chain.{Joined, append, join_step, key_of, climb_from, parent_of, fragment_of}
use Rattle.read_listing.specs.Listing.{measure, written}
use Rattle.read_chain.proofs.ChainLaws.{Climbs, climb_or, StepFits, climb_fits, key_turn, key_over, fragment_taken, fragment_size}

-- ---- one fragment

-- the key above an item: none above a root
unfoldable pub above : Result (Option ℕ) Refusal → (ℕ → Joined) → Joined
above (Ok None) key_at = Joined.joined []
above (Ok (Some parent)) key_at = key_at parent
above (Err why) key_at = Joined.broken why

pub joined_above : (s : Result (Option ℕ) Refusal) (f : List ℕ) (key_at : ℕ → Joined) → join_step s f key_at ≡ append (above s key_at) f
unfolding join_step above append
joined_above (Ok None) f key_at = refl
joined_above (Ok (Some parent)) f key_at = refl
joined_above (Err why) f key_at = refl

pub size_is : (m n : ℕ) → ◌≡◌ {A = Result ℕ Refusal} (Ok m) (Ok n) → m ≡ n
size_is m n e = cc

-- a key of k bytes whose tail f is written
written-tail : (k f out : List ℕ) → length k + length f ≤ length out
    → written (Joined.joined k) (put_at out (length k) f) ≡ written (Joined.joined (k ++ f)) out
unfolding written pick
written-tail k f out l =
    let long : length (put_at out (length k) f) ≡ length out = length-put out (length k) f in
    let all : length (k ++ f) ≡ length k + length f = length-append k f in
    let left : length k ≤ length (put_at out (length k) f) = omega arith in
    let right : length (k ++ f) ≤ length out = omega arith in
    let joined : put_at out 0 (k ++ f) ≡ put_at (put_at out 0 k) (length k) f = put-append out 0 k f ∙ ap (λ (n : ℕ). put_at (put_at out 0 k) n f) (zero-add (length k)) in
    rw (le-ltb _ _ left, le-ltb _ _ right) (sym (joined ∙ put_comm out 0 k (length k) f (omega arith)))

-- writing a fragment behind the rest of its key leaves the rest to write
record Behind (j : Joined) (f out : List ℕ) (end : ℕ) : Type 0 where
  pub shorter : length f ≤ end
  pub sized : measure j ≡ Ok (end - length f)
  pub same : written j (put_at out (end - length f) f) ≡ written (append j f) out

behind : (j : Joined) (f out : List ℕ) (end : ℕ) → measure (append j f) ≡ Ok end → end ≤ length out → Behind j f out end
unfolding measure append
behind (Joined.broken why) f out end e room = let z : ◌≡◌ {A = ℕ} 0 1 = cc in absurd (omega arith)
behind (Joined.joined k) f out end e room =
    let all : length (k ++ f) ≡ end = size_is _ _ e in
    let sum : length k + length f ≡ end = sym (length-append k f) ∙ all in
    let m : length k ≡ end - length f = omega arith in
    record {
      shorter = omega arith;
      sized = ap Ok m;
      same = rw (← m) (written-tail k f out (omega arith));
    }

written_none : (out : List ℕ) → written (Joined.joined []) out ≡ out
unfolding written
written_none out = rw (put-none out 0) (pick_same _ out)

-- ---- the loop

pub record Writing (file : List ℕ) (t : Table) (index : ℕ) (out₀ : List ℕ) (at end left : ℕ) (out : List ℕ) : Type 0 where
  pub below : at < t.count
  pub sized : measure (key_of file t left at) ≡ Ok end
  pub room : end ≤ length out
  pub long : length out ≡ length out₀
  pub same : written (key_of file t left at) out ≡ written (key_of file t t.count index) out₀

module _ (file : List ℕ) (t : Table) (index : ℕ) (out₀ : List ℕ) where
  module _ {at end left : ℕ} {out : List ℕ} (w : Writing file t index out₀ at end left out) where
    -- a key that is measured has a root
    pub write_over : left ≤ 0 → out ≡ written (key_of file t t.count index) out₀
    unfolding measure
    write_over h =
        let z : Err ParentsEndless ≡ Ok end = sym (ap measure (key_over file t left at h)) ∙ w.sized in
        cc

    module _ (h : 0 < left) {item : Item} (is : item ≡ item_at file t at) where
      -- and no item on its way is refused
      climbs : Climbs file t.count item (climb_from file t.count item)
      unfolding measure join_step
      climbs = climb_or file t.count item (λ why e.
          let z : Err why ≡ Ok end = sym (ap measure (key_turn file t left at item _ h is e)) ∙ w.sized in
          let y : ◌≡◌ {A = ℕ} 0 1 = cc in omega arith)

      key_is : key_of file t left at ≡ append (above (parent_of t.count item.parent) (λ parent. key_of file t (left - 1) parent)) (fragment_of file item)
      key_is = key_turn file t left at item _ h is climbs.is ∙ joined_above _ _ _

      turned : Behind (above (parent_of t.count item.parent) (λ parent. key_of file t (left - 1) parent)) (fragment_of file item) out end
      turned = behind _ _ _ _ (sym (ap measure key_is) ∙ w.sized) w.room

      -- the offset and the size of the fragment, as the code has them
      module _ {start size : ℕ} (s : start ≡ item.key) (z : size ≡ item.size) where
        pub write_inside : start + size ≤ length file
        write_inside = omega (arith, climbs.inside)

        taken : take (start + size - start) (drop start file) ≡ fragment_of file item
        taken = fragment_taken file item s z

        taken_size : length (fragment_of file item) ≡ size
        taken_size = fragment_size file item climbs.inside ∙ sym z

        pub write_fits : size ≤ end
        write_fits = omega (arith, turned.shorter, taken_size)

        pub write_room : end - size + length (take (start + size - start) (drop start file)) ≤ length out
        write_room = rw taken (omega (arith, write_fits, taken_size, w.room))

        put_same : written (above (parent_of t.count item.parent) (λ parent. key_of file t (left - 1) parent)) (put_at out (end - size) (take (start + size - start) (drop start file)))
            ≡ written (key_of file t t.count index) out₀
        put_same =
            rw (taken, ← taken_size) (turned.same ∙ sym (ap (λ (j : Joined). written j out) key_is) ∙ w.same)

        pub write_root : parent_of t.count item.parent ≡ Ok None
            → put_at out (end - size) (take (start + size - start) (drop start file)) ≡ written (key_of file t t.count index) out₀
        unfolding above
        write_root e = sym (written_none _) ∙ rw e at put_same

        pub write-refused : {why : Refusal} → parent_of t.count item.parent ≡ Err why
            → put_at out (end - size) (take (start + size - start) (drop start file)) ≡ written (key_of file t t.count index) out₀
        unfolding above measure
        write-refused {why} e = let z : Err why ≡ Ok (end - length (fragment_of file item)) = rw e at turned.sized in cc

        pub write_up : {parent : ℕ} → parent_of t.count item.parent ≡ Ok (Some parent)
            → Writing file t index out₀ parent (end - size) (left - 1) (put_at out (end - size) (take (start + size - start) (drop start file)))
        unfolding above StepFits
        write_up {parent} e =
            let long : length (put_at out (end - size) (take (start + size - start) (drop start file))) ≡ length out = length-put out (end - size) _ in
            record {
              below = (subst (StepFits file t.count item) (climbs.is ∙ e) (climb_fits file t.count item)).1;
              sized = rw (e, taken_size) at turned.sized;
              room = omega (arith, w.room);
              long = long ∙ w.long;
              same = rw e at put_same;
            }
