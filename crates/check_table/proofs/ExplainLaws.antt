-- An answer that is explained stays as it is, or is rule 1 of an item whose key is refused.
use Prim.Native.Nat.{ℕ, zero, suc, ◌+◌}
use mathlib.Core.Path.{◌≡◌, refl, sym, ◌∙◌}
use mathlib.Core.Logic.{◌⊎◌, inl, inr}
use mathlib.Core.List.{List}
use mathlib.Core.Bool.{Bool, true, false}
use native.Mathlib.Omega.{arith}
use lib.Dec.{eqb}
use borrow.Author.Tests.{eqb-true}
use Rattle.words.specs.Choice.{pick}
use Rattle.words.proofs.ChoiceLaws.{pick_with}
use Rattle.layout.specs.declared.refusal.Refusal.{Refusal}
use Rattle.layout.specs.declared.table.Table.{Table}
use Rattle.read_chain.specs.Chain.{Joined, key_of}
use Rattle.check_rules.specs.declared.checked.Checked.{Checked}
use Rattle.check_rules.specs.Rules.{is_joined, key_lists, first_broken, unlisted, explained}
use Rattle.check_rules.specs.Answer.{checked_number, checked_rule, checked_item}

module _ (file : List ℕ) (t : Table) where
  -- rule 1 of an item, and the refusal of its key
  pub record One (c d : Checked) : Type 0 where
    pub item : ℕ
    pub why : Refusal
    pub first : c ≡ Checked.Broken 1 item
    pub key : key_of file t t.count item ≡ Joined.broken why
    pub says : d ≡ Checked.Unlisted why item

  by_key : (item : ℕ) (j : Joined) → key_of file t t.count item ≡ j → (unlisted j item ≡ Checked.Broken 1 item) ⊎ One (Checked.Broken 1 item) (unlisted j item)
  unfolding unlisted
  by_key item (Joined.joined k) e = inl refl
  by_key item (Joined.broken why) e = inr (record { item = item; why = why; first = refl; key = e; says = refl })

  by_rule : (n item : ℕ) (b : Bool) → eqb n 1 ≡ b
      → (pick b (unlisted (key_of file t t.count item) item) (Checked.Broken n item) ≡ Checked.Broken n item)
      ⊎ One (Checked.Broken n item) (pick b (unlisted (key_of file t t.count item) item) (Checked.Broken n item))
  unfolding pick
  by_rule n item true e = rw (eqb-true n 1 e) (by_key item _ refl)
  by_rule n item false e = inl refl

  pub explained_cases : (c : Checked) → (explained file t c ≡ c) ⊎ One c (explained file t c)
  unfolding explained
  explained_cases Checked.Sound = inl refl
  explained_cases (Checked.Broken n item) = by_rule n item (eqb n 1) refl
  explained_cases (Checked.Unlisted why item) = inl refl
  explained_cases (Checked.Refused why) = inl refl

  pub explained-one : (item : ℕ) {why : Refusal} → key_of file t t.count item ≡ Joined.broken why → explained file t (Checked.Broken 1 item) ≡ Checked.Unlisted why item
  unfolding explained unlisted pick
  explained-one item e = rw e

  -- a key that does not list is never answered without its refusal
  pub one-explained : (item : ℕ) → key_lists file t item ≡ false → explained file t (Checked.Broken 1 item) ≡ Checked.Broken 1 item → ⊥
  unfolding explained key_lists is_joined unlisted pick
  one-explained item none e = by_joined (key_of file t t.count item) none e
    where
      by_joined : (j : Joined) → is_joined j ≡ false → unlisted j item ≡ Checked.Broken 1 item → ⊥
      by_joined (Joined.joined k) f g = let z : ◌≡◌ {A = ℕ} 0 1 = cc in omega arith
      by_joined (Joined.broken why) f g = let z : ◌≡◌ {A = ℕ} 0 1 = cc in omega arith

  -- number, rule and item are those of the broken rule
  pub record Same (n i : ℕ) (c : Checked) : Type 0 where
    pub number : checked_number c ≡ 40
    pub rule : checked_rule c ≡ n
    pub item : checked_item c ≡ i

  pub explained_same : (n item : ℕ) → Same n item (explained file t (Checked.Broken n item))
  unfolding explained unlisted checked_number checked_rule checked_item
  explained_same n item =
      pick_with (Same n item) _ _ _
      (λ one. by_joined (key_of file t t.count item) (eqb-true n 1 one))
      (λ _. record { number = refl; rule = refl; item = refl })
    where
      by_joined : (j : Joined) → n ≡ 1 → Same n item (unlisted j item)
      by_joined (Joined.joined k) one = record { number = refl; rule = sym one; item = refl }
      by_joined (Joined.broken why) one = record { number = refl; rule = sym one; item = refl }

-- the search itself neither refuses nor explains
never_other : (P : Checked → Type 0) → P Checked.Sound → ((n item : ℕ) → P (Checked.Broken n item)) → (broken : ℕ → ℕ) (more at : ℕ) → P (first_broken broken more at)
unfolding first_broken
never_other P sound each broken zero at = sound
never_other P sound each broken (suc more) at = pick_with P _ _ _ (λ _. never_other P sound each broken more (at + 1)) (λ _. each (broken at) at)

pub never_refused : (broken : ℕ → ℕ) (more at : ℕ) {why : Refusal} → first_broken broken more at ≡ Checked.Refused why → ⊥
never_refused broken more at {why} =
    never_other (λ c. c ≡ Checked.Refused why → ⊥) (λ e. let z : ◌≡◌ {A = ℕ} 0 1 = cc in omega arith) (λ n item e. let z : ◌≡◌ {A = ℕ} 0 1 = cc in omega arith) broken more at

pub never_unlisted : (broken : ℕ → ℕ) (more at : ℕ) {why : Refusal} {item : ℕ} → first_broken broken more at ≡ Checked.Unlisted why item → ⊥
never_unlisted broken more at {why} {item} =
    never_other (λ c. c ≡ Checked.Unlisted why item → ⊥) (λ e. let z : ◌≡◌ {A = ℕ} 0 1 = cc in omega arith) (λ n i e. let z : ◌≡◌ {A = ℕ} 0 1 = cc in omega arith) broken more at

pub sound_explained : (file : List ℕ) (t : Table) {c : Checked} → explained file t c ≡ Checked.Sound → c ≡ Checked.Sound
sound_explained file t {c} e = elim (explained_cases file t c) [ inl same ↦ sym same ∙ e | inr one ↦ absurd (let says = one.says in let z : ◌≡◌ {A = ℕ} 0 1 = cc in omega arith) ]
