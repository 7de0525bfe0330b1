-- UTF-8, from the grammar of RFC 3629, section 4.
use Rattle.std.specs.Prelude.{ℕ, zero, suc, Bool, true, false, ◌&&◌, ◌||◌, not, List, [], ◌∷◌, length, get_or, leb, eqb}

unfoldable pub between : ℕ → ℕ → ℕ → Bool
between low high b = leb low b && leb b high

-- UTF8-tail = %x80-BF
unfoldable pub tail : ℕ → Bool
unfolding between
tail b = between 0x80 0xBF b

-- UTF8-2 = %xC2-DF UTF8-tail
unfoldable pub is_two : ℕ → ℕ → Bool
is_two b0 b1 = between 0xC2 0xDF b0 && tail b1

-- the first two bytes of UTF8-3 = %xE0 %xA0-BF UTF8-tail / %xE1-EC 2( UTF8-tail ) / %xED %x80-9F UTF8-tail / %xEE-EF 2( UTF8-tail )
unfoldable pub starts_three : ℕ → ℕ → Bool
starts_three b0 b1 =
    (eqb b0 0xE0 && between 0xA0 0xBF b1)
    || ((between 0xE1 0xEC b0 && tail b1) || ((eqb b0 0xED && between 0x80 0x9F b1) || (between 0xEE 0xEF b0 && tail b1)))

-- the first two bytes of UTF8-4 = %xF0 %x90-BF 2( UTF8-tail ) / %xF1-F3 3( UTF8-tail ) / %xF4 %x80-8F 2( UTF8-tail )
unfoldable pub starts_four : ℕ → ℕ → Bool
starts_four b0 b1 =
    (eqb b0 0xF0 && between 0x90 0xBF b1) || ((between 0xF1 0xF3 b0 && tail b1) || (eqb b0 0xF4 && between 0x80 0x8F b1))

-- which of four tests holds first, counted from 1, or 0
unfoldable pub first_of : Bool → Bool → Bool → Bool → ℕ
first_of true q r s = 1
first_of false true r s = 2
first_of false false true s = 3
first_of false false false true = 4
first_of false false false false = 0

-- how many of four bytes are one UTF8-char, or 0 where none is. UTF8-1 = %x00-7F
unfoldable pub sequence_len : ℕ → ℕ → ℕ → ℕ → ℕ
sequence_len b0 b1 b2 b3 =
    first_of (leb b0 0x7F) (is_two b0 b1) (starts_three b0 b1 && tail b2) (starts_four b0 b1 && (tail b2 && tail b3))

-- the length of the character at the front, or 0. A byte that is missing counts as 0, which is no tail byte.
unfoldable pub step_len : List ℕ → ℕ
step_len [] = 0
step_len (b ∷ s) = sequence_len b (get_or s 0 0) (get_or s 1 0) (get_or s 2 0)

-- 0 where no character stands, else one more than what the rest gives
unfoldable pub one_more : ℕ → (ℕ → ℕ) → ℕ
one_more zero rest = zero
one_more (suc k) rest = suc (rest k)

-- how many bytes at the front are whole characters; the first `skip` of them belong to a character that was counted before
unfoldable pub good_from : ℕ → List ℕ → ℕ
good_from skip [] = 0
good_from (suc skip) (b ∷ s) = suc (good_from skip s)
good_from zero (b ∷ s) = one_more (step_len (b ∷ s)) (λ k. good_from k s)

-- where the first sequence that is not allowed starts, or the length where there is none
unfoldable pub first_bad : List ℕ → ℕ
first_bad s = good_from 0 s

-- a text is UTF-8 where no sequence is bad
unfoldable pub is_utf8 : List ℕ → Bool
is_utf8 s = eqb (first_bad s) (length s)

-- whether no character is cut where the bytes start: there are none, or the first is no tail byte
unfoldable pub starts_whole : List ℕ → Bool
starts_whole s = not (tail (get_or s 0 0))
