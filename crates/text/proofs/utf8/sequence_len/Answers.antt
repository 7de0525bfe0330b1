-- `text::utf8::sequence_len` meets its contract: each return by the tests that led there.
use mathlib.Core.Path.{◌≡◌, refl, sym}
use mathlib.Core.Bool.{Bool, true, false, ◌&&◌}
use native.Mathlib.Omega.{arith}
use Rattle.text.specs.Utf8.{tail, is_two, starts_three, starts_four}
use Rattle.text.proofs.Utf8Laws.{len_1, len_2, len_3, len_4, len_0}
use Rattle.text.proofs.utf8.sequence_len.Goals as goal

-- a test of two calls is the test of what they answer
both : {p q a b t : Bool} → p ≡ a → q ≡ b → (p && q) ≡ t → (a && b) ≡ t
both e f h = rw (← e, ← f) h

pub returns-then-b0-le127 : goal.returns-then-b0-le127
returns-then-b0-le127 c = len_1 _ _ _ _ c.if-b0-le127.true

pub returns-then-two : goal.returns-then-two
unfolding is_two
returns-then-two c =
    let a = c.args in
    let two : is_two a.b0 a.b1 ≡ true = both c.is_between.ensures c.is_tail.ensures c.if-two.true in
    len_2 a.b0 a.b1 a.b2 a.b3 (omega arith) two

pub returns-then-three : goal.returns-then-three
unfolding is_two
returns-then-three c =
    let a = c.args in
    let not_two : is_two a.b0 a.b1 ≡ false = both c.is_between.ensures c.is_tail.ensures c.if-two.false in
    let three : (starts_three a.b0 a.b1 && tail a.b2) ≡ true = both c.starts_three.ensures c.is_tail-2.ensures c.if-three.true in
    len_3 a.b0 a.b1 a.b2 a.b3 (omega arith) not_two three

pub returns-then-four : goal.returns-then-four
unfolding is_two
returns-then-four c =
    let a = c.args in
    let not_two : is_two a.b0 a.b1 ≡ false = both c.is_between.ensures c.is_tail.ensures c.if-two.false in
    let not_three : (starts_three a.b0 a.b1 && tail a.b2) ≡ false = both c.starts_three.ensures c.is_tail-2.ensures c.if-three.false in
    let four : (starts_four a.b0 a.b1 && (tail a.b2 && tail a.b3)) ≡ true = both c.starts_four.ensures (sym (both c.is_tail-3.ensures c.is_tail-4.ensures refl)) c.if-four.true in
    len_4 a.b0 a.b1 a.b2 a.b3 (omega arith) not_two not_three four

pub returns : goal.returns
unfolding is_two
returns c =
    let a = c.args in
    let not_two : is_two a.b0 a.b1 ≡ false = both c.is_between.ensures c.is_tail.ensures c.if-two.false in
    let not_three : (starts_three a.b0 a.b1 && tail a.b2) ≡ false = both c.starts_three.ensures c.is_tail-2.ensures c.if-three.false in
    let four : (starts_four a.b0 a.b1 && (tail a.b2 && tail a.b3)) ≡ false = both c.starts_four.ensures (sym (both c.is_tail-3.ensures c.is_tail-4.ensures refl)) c.if-four.false in
    len_0 a.b0 a.b1 a.b2 a.b3 (omega arith) not_two not_three four
