-- P1 to P12 of document 01, 'Worked numbers': the table. That every line of it holds is shown in proofs/Paper.antt.
use Rattle.std.specs.Prelude.{ℕ, ◌≡◌, List, [], ◌∷◌}
use Rattle.key_hash.specs.Hash.{hash_of}
use Rattle.words.specs.Align.{aligned}
use Rattle.words.specs.Bits.{bloom_count}
use Rattle.key_order.specs.Prefix.{prefixes}

-- a line of the table, what is asked and what is answered
pub data Line : Type 0 where
  hash : List ℕ → ℕ → Line
  align : ℕ → ℕ → ℕ → Line
  blooms : ℕ → ℕ → Line
  splits : ℕ → List ℕ → List (List ℕ) → Line

-- what a line says
abbrev pub Holds : Line → Type 0
Holds (Line.hash key answer) = hash_of key ≡ answer
Holds (Line.align offset alignment answer) = aligned offset alignment ≡ answer
Holds (Line.blooms first answer) = bloom_count first ≡ answer
Holds (Line.splits separator key answer) = prefixes separator key ≡ answer

abbrev pub AllHold : List Line → Type 0
AllHold [] = Unit
AllHold (line ∷ lines) = Holds line × AllHold lines

-- 97 is "a", 98 "b", 99 "c", 47 "/", which parts the keys of P10 to P12
abbrev pub paper : List Line
paper =
    Line.hash [] 5381
    ∷ Line.hash (97 ∷ []) 177670
    ∷ Line.hash (97 ∷ 47 ∷ []) 5863157
    ∷ Line.hash (97 ∷ 47 ∷ 98 ∷ []) 193484279
    ∷ Line.hash (97 ∷ 47 ∷ 98 ∷ 99 ∷ []) 2090014010
    ∷ Line.align 60 8 64
    ∷ Line.align 89 8 96
    ∷ Line.align 64 8 64
    ∷ Line.blooms 0x28000000 0
    ∷ Line.splits 47 (47 ∷ 97 ∷ 47 ∷ 47 ∷ 98 ∷ []) ((47 ∷ []) ∷ (47 ∷ 97 ∷ 47 ∷ []) ∷ (47 ∷ 97 ∷ 47 ∷ 47 ∷ []) ∷ (47 ∷ 97 ∷ 47 ∷ 47 ∷ 98 ∷ []) ∷ [])
    ∷ Line.splits 47 (97 ∷ 47 ∷ []) ((97 ∷ 47 ∷ []) ∷ [])
    ∷ Line.splits 47 (47 ∷ []) ((47 ∷ []) ∷ [])
    ∷ []
