-- An item keeps every rule, or breaks one first: the cascade of the definition, both ways.
use Prim.Native.Nat.{ℕ, suc}
use mathlib.Core.Path.{◌≡◌, refl, sym, ◌∙◌, subst}
use mathlib.Core.List.{List}
use mathlib.Core.Bool.{Bool, true, false}
use native.Mathlib.Omega.{arith}
use Rattle.words.specs.Choice.{pick}
use Rattle.layout.specs.declared.table.Table.{Table}
use Rattle.layout.specs.Kind.{kind_known}
use Rattle.layout.specs.Item.{item_at}
use Rattle.check_rules.specs.Rules.{key_lists, key_finds, value_opens, children_good, parent_good, broken_rule}
use Rattle.read_find.specs.Find.{Manner}
use Rattle.check_rules.specs.Broken.{Keeps, Breaks}

-- of a choice whose other answer is a rule
pick-zero : (b : Bool) (rest n : ℕ) → pick b rest (suc n) ≡ 0 → (b ≡ true) × (rest ≡ 0)
unfolding pick
pick-zero true rest n e = (refl, e)
pick-zero false rest n e = absurd (omega arith)

module _ (manner : Manner) (file : List ℕ) (t : Table) (i : ℕ) where
  pub breaks_none_keeps : broken_rule manner file t i ≡ 0 → Keeps manner file t i
  unfolding broken_rule
  breaks_none_keeps e =
      let r1 = pick-zero _ _ _ e in
      let r2 = pick-zero _ _ _ r1.1 in
      let r3 = pick-zero _ _ _ r2.1 in
      let r4 = pick-zero _ _ _ r3.1 in
      let r5 = pick-zero _ _ _ r4.1 in
      let r6 = pick-zero _ _ _ r5.1 in
      record { one = r1.0; two = r2.0; three = r3.0; four = r4.0; five = r5.0; six = r6.0 }

  pub keeps_breaks_none : Keeps manner file t i → broken_rule manner file t i ≡ 0
  unfolding broken_rule pick
  keeps_breaks_none k = rw (k.one, k.two, k.three, k.four, k.five, k.six)

  -- the first rule broken is the one that is answered
  pub breaks_number : {n : ℕ} → Breaks manner file t i n → broken_rule manner file t i ≡ n
  unfolding broken_rule pick
  breaks_number (Breaks.first a) = rw a
  breaks_number (Breaks.second a b) = rw (a, b)
  breaks_number (Breaks.third a b c) = rw (a, b, c)
  breaks_number (Breaks.fourth a b c d) = rw (a, b, c, d)
  breaks_number (Breaks.fifth a b c d e) = rw (a, b, c, d, e)
  breaks_number (Breaks.sixth a b c d e f) = rw (a, b, c, d, e, f)

  -- and an answer that is not 0 is a rule that is broken first
  number_breaks : (broken_rule manner file t i ≡ 0 → ⊥) → Breaks manner file t i (broken_rule manner file t i)
  unfolding broken_rule pick
  number_breaks =
      by_tests (key_lists file t i) refl (key_finds manner file t i) refl (kind_known (item_at file t i).kind) refl
      (value_opens file (item_at file t i)) refl (children_good file t i (item_at file t i)) refl (parent_good file t i (item_at file t i)) refl
    where
      by_tests : (a : Bool) → key_lists file t i ≡ a → (b : Bool) → key_finds manner file t i ≡ b → (c : Bool) → kind_known (item_at file t i).kind ≡ c
          → (d : Bool) → value_opens file (item_at file t i) ≡ d → (e : Bool) → children_good file t i (item_at file t i) ≡ e
          → (f : Bool) → parent_good file t i (item_at file t i) ≡ f
          → (◌≡◌ {A = ℕ} (pick a (pick b (pick c (pick d (pick e (pick f 0 6) 5) 4) 3) 2) 1) 0 → ⊥)
          → Breaks manner file t i (pick a (pick b (pick c (pick d (pick e (pick f 0 6) 5) 4) 3) 2) 1)
      by_tests false p b q c r d s e u f v n = Breaks.first p
      by_tests true p false q c r d s e u f v n = Breaks.second p q
      by_tests true p true q false r d s e u f v n = Breaks.third p q r
      by_tests true p true q true r false s e u f v n = Breaks.fourth p q r s
      by_tests true p true q true r true s false u f v n = Breaks.fifth p q r s u
      by_tests true p true q true r true s true u false v n = Breaks.sixth p q r s u v
      by_tests true p true q true r true s true u true v n = absurd (n refl)

  pub broken_breaks : {n : ℕ} → broken_rule manner file t i ≡ n → (n ≡ 0 → ⊥) → Breaks manner file t i n
  broken_breaks {n} e some = subst (Breaks manner file t i) e (number_breaks (λ z. some (sym e ∙ z)))
