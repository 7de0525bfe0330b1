-- Laws about the listings: what a key's length says of the answer and of the buffer, and the search for the next value.
use Rattle.std.specs.Prelude.{Result, Ok, Err}
use Rattle.read_listing.specs.declared.listing.WrittenKey.{WrittenKey}
use Prim.Native.Nat.{ℕ, zero, suc, ◌+◌, ◌-◌, ◌≤◌, ◌<◌}
use mathlib.Core.Path.{◌≡◌, refl, sym, ap, ◌∙◌, subst}
use mathlib.Core.Bool.{Bool, true, false}
use mathlib.Core.List.{List}
use native.Mathlib.Omega.{arith}
use lib.ListN.{length, take, drop}
use lib.Dec.{eqb, ltb}
use borrow.Author.Tests.{le-ltb, lt-ltb, le-leb, lt-leb, ltb-false, leb-false, eqb-true, eqb-false}
use Rattle.words.specs.Choice.{pick}
use Rattle.words.specs.Store.{put_at}
use Rattle.words.proofs.ChoiceLaws.{pick_with}
use Rattle.words.proofs.StoreLaws.{part-put, drop_after}
use Rattle.layout.specs.declared.refusal.Refusal.{Refusal}
use Rattle.layout.specs.declared.refusal.Refusal.TheVariants.{PastTheLast, BufferTooShort}
use Rattle.layout.specs.declared.table.Table.{Table}
use Rattle.layout.specs.declared.item.Item.{Item}
use Rattle.layout.specs.Item.{item_at}
use Rattle.read_listing.specs.declared.listing.Cursor.{Cursor}
use Rattle.read_chain.specs.Chain.{Joined, key_of}
use Rattle.read_listing.specs.Listing.{measure, key_in, listed, written, next_of, next_value}
use Rattle.read_listing.proofs.WriteLaws.{size_is}

-- ---- a key

-- what is answered and what the buffer holds then
abbrev pub Told : Joined → List ℕ → ℕ → Result WrittenKey Refusal → List ℕ → Type 0
Told j out at said wrote = (said ≡ listed j (length out) at) × (wrote ≡ written j out)

-- the key at the position of an item is the item's
pub in_range : (file : List ℕ) (t : Table) (at : ℕ) → at < t.count → key_in file at t ≡ key_of file t t.count at
unfolding key_in pick
in_range file t at h = simp (lt-leb _ _ h)

module _ (file : List ℕ) (t : Table) (at : ℕ) (out : List ℕ) where
  pub told_past : t.count ≤ at → Told (key_in file at t) out at (Err PastTheLast) out
  unfolding key_in pick listed written
  told_past h = (simp (le-leb _ _ h), simp (le-leb _ _ h))

  refused-told : (j : Joined) {why : Refusal} → measure j ≡ Err why → Told j out at (Err why) out
  unfolding measure listed written
  refused-told (Joined.joined k) e = let z : ◌≡◌ {A = ℕ} 0 1 = cc in absurd (omega arith)
  refused-told (Joined.broken why) e = (cc, refl)

  long_told : (j : Joined) {size : ℕ} → measure j ≡ Ok size → length out < size → Told j out at (Err BufferTooShort) out
  unfolding measure listed written pick
  long_told (Joined.joined k) e h =
      let l : length out < length k = omega (arith, size_is _ _ e) in
      (simp (lt-ltb _ _ l), simp (lt-ltb _ _ l))
  long_told (Joined.broken why) e h = let z : ◌≡◌ {A = ℕ} 0 1 = cc in absurd (omega arith)

  key_said : (j : Joined) {size : ℕ} → measure j ≡ Ok size → size ≤ length out → Ok (record { size = size; next = record { at = at + 1 } }) ≡ listed j (length out) at
  unfolding measure listed pick
  key_said (Joined.joined k) {size} e h =
      let same : size ≡ length k = sym (size_is _ _ e) in
      let l : length k ≤ length out = omega arith in
      simp (le-ltb _ _ l) (ap (λ (n : ℕ). Ok (record { size = n; next = record { at = at + 1 } })) same)
  key_said (Joined.broken why) e h = cc

  module _ (h : at < t.count) where
    pub told-refused : {why : Refusal} → measure (key_of file t t.count at) ≡ Err why → Told (key_in file at t) out at (Err why) out
    told-refused e = rw (in_range file t at h) (refused-told _ e)

    pub told_long : {size : ℕ} → measure (key_of file t t.count at) ≡ Ok size → length out < size → Told (key_in file at t) out at (Err BufferTooShort) out
    told_long e l = rw (in_range file t at h) (long_told _ e l)

    pub told_key : {size : ℕ} → measure (key_of file t t.count at) ≡ Ok size → size ≤ length out → {wrote : List ℕ} → wrote ≡ written (key_of file t t.count at) out
        → Told (key_in file at t) out at (Ok (record { size = size; next = record { at = at + 1 } })) wrote
    told_key e l w = rw (in_range file t at h) (key_said _ e l, w)

-- a position past the last item has no key
pub key_in_range : (file : List ℕ) (at : ℕ) (t : Table) {k : List ℕ} → key_in file at t ≡ Joined.joined k → at < t.count
unfolding key_in
key_in_range file at t {k} =
    let P : Joined → Type 0 = λ j. j ≡ Joined.joined k → at < t.count in
    pick_with P _ _ _ (λ _ e. let z : ◌≡◌ {A = ℕ} 0 1 = cc in absurd (omega arith)) (λ here _. leb-false _ _ here)

-- a key that is written stands at the front, what lies behind it stays, and the cursor is moved on by one
pub record Front (j : Joined) (out : List ℕ) (at size : ℕ) (next : Cursor) : Type 0 where
  pub key : j ≡ Joined.joined (take size (written j out))
  pub room : size ≤ length out
  pub rest : drop size (written j out) ≡ drop size out
  pub moved : next.at ≡ at + 1

front_put : (k out : List ℕ) (at : ℕ) → length k ≤ length out → Front (Joined.joined k) out at (length k) (record { at = at + 1 })
unfolding written pick
front_put k out at fits =
    let put : written (Joined.joined k) out ≡ put_at out 0 k = rw (le-ltb _ _ fits) in
    record {
      key = ap Joined.joined (sym (ap (take (length k)) put ∙ part-put out 0 k (omega arith)));
      room = fits;
      rest = ap (drop (length k)) put ∙ drop_after out 0 k (length k) (omega arith);
      moved = refl;
    }

pub front : (j : Joined) (out : List ℕ) (at : ℕ) {size : ℕ} {next : Cursor} → listed j (length out) at ≡ Ok (record { size = size; next = next }) → Front j out at size next
unfolding listed
front (Joined.broken why) out at = λ e. let z : ◌≡◌ {A = ℕ} 0 1 = cc in absurd (omega arith)
front (Joined.joined k) out at {size} {next} =
    let P : Result WrittenKey Refusal → Type 0 = λ l. l ≡ Ok (record { size = size; next = next }) → Front (Joined.joined k) out at size next in
    pick_with P _ _ _ (λ _ e. let z : ◌≡◌ {A = ℕ} 0 1 = cc in absurd (omega arith))
    (λ fits e.
    let same : ◌≡◌ {A = WrittenKey} (record { size = length k; next = record { at = at + 1 } }) (record { size = size; next = next }) = cc in
    let sized = ap (λ (w : WrittenKey). w.size) same in
    let moved = ap (λ (w : WrittenKey). w.next) same in
    subst (λ (n : ℕ). Front (Joined.joined k) out at n next) sized
    (subst (λ (d : Cursor). Front (Joined.joined k) out at (length k) d) moved (front_put k out at (ltb-false _ _ fits))))

-- a refusal writes nothing
pub refused_keeps : (j : Joined) (out : List ℕ) (at : ℕ) {why : Refusal} → listed j (length out) at ≡ Err why → written j out ≡ out
unfolding listed written pick
refused_keeps (Joined.broken why) out at e = refl
refused_keeps (Joined.joined k) out at {why} e = by (ltb (length out) (length k)) refl e
  where
    by : (q : Bool) → ltb (length out) (length k) ≡ q → pick {A = Result WrittenKey Refusal} q (Err BufferTooShort) (Ok (record { size = length k; next = record { at = at + 1 } })) ≡ Err why
        → pick q out (put_at out 0 k) ≡ out
    by true t e = refl
    by false t e = cc

-- ---- the next value

-- one position of the search, whose item is at hand, and its end
pub next_turn : (file : List ℕ) (t : Table) (at : ℕ) {item : Item} → item ≡ item_at file t at → at < t.count
    → next_value file t at ≡ pick (eqb item.kind 118) at (next_value file t (at + 1))
unfolding next_of next_value
next_turn file t at is h =
    let e : t.count - at ≡ suc (t.count - (at + 1)) = omega arith in
    ap (λ (n : ℕ). next_of file t n at) e ∙ rw (← is)

pub next_over : (file : List ℕ) (t : Table) (at : ℕ) → t.count ≤ at → next_value file t at ≡ t.count
unfolding next_of next_value
next_over file t at h =
    let e : t.count - at ≡ 0 = omega arith in
    ap (λ (n : ℕ). next_of file t n at) e

-- the first item of kind 'v' at or after a position: none is between, and none is at all where it is the item count
unfoldable pub NextSays : List ℕ → Table → ℕ → ℕ → Type 0
NextSays file t at n =
    (n < t.count → (at ≤ n) × ((item_at file t n).kind ≡ 118)) × ((k : ℕ) → at ≤ k → k < n → k < t.count → (item_at file t k).kind ≡ 118 → ⊥)

says_next : (file : List ℕ) (t : Table) (at n : ℕ) → ((item_at file t at).kind ≡ 118 → ⊥) → NextSays file t (at + 1) n → NextSays file t at n
unfolding NextSays
says_next file t at n other (here, none) =
    ((λ below. (omega (arith, (here below).0), (here below).1)), λ k from to below kind. by k (eqb k at) refl from to below kind)
  where
    by : (k : ℕ) (q : Bool) → eqb k at ≡ q → at ≤ k → k < n → k < t.count → (item_at file t k).kind ≡ 118 → ⊥
    by k true e from to below kind = other (ap (λ (i : ℕ). (item_at file t i).kind) (sym (eqb-true k at e)) ∙ kind)
    by k false e from to below kind = let apart : (k ≡ at → ⊥) = eqb-false k at e in none k (omega arith) to below kind

next_of-says : (file : List ℕ) (t : Table) (more at : ℕ) → t.count ≤ at + more → NextSays file t at (next_of file t more at)
unfolding next_of NextSays
next_of-says file t zero at h = ((λ below. absurd (omega arith)), λ k from to below. absurd (omega arith))
next_of-says file t (suc more) at h =
    pick_with (NextSays file t at) _ _ _
    (λ kind. ((λ below. (omega arith, eqb-true _ _ kind)), λ k from to. absurd (omega arith)))
    (λ other. says_next file t at (next_of file t more (at + 1)) (eqb-false _ _ other) (next_of-says file t more (at + 1) (omega arith)))

pub next_says : (file : List ℕ) (t : Table) (at : ℕ) → NextSays file t at (next_value file t at)
unfolding next_value
next_says file t at = next_of-says file t (t.count - at) at (omega arith)
