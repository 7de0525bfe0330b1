-- No two refusals have the same number and the same offset, and none has the number 0.
use Prim.Native.Nat.{ℕ}
use mathlib.Core.Path.{◌≡◌, refl, sym, ap, ◌∙◌}
use native.Mathlib.Omega.{arith}
use lib.Dec.{eqb}
use Rattle.words.specs.Choice.{pick}
use Rattle.layout.specs.declared.refusal.Refusal.{Refusal}
use Rattle.layout.specs.declared.refusal.Refusal.TheVariants.{FileTooLong, PointerOutside, Misaligned, TableTooShort, BloomTooLong, BucketsTooLong, ItemsUneven, KeyNotUtf8, FragmentNotUtf8, ParentOutside, ParentsEndless, KeyNotFound, OtherKind, BufferTooShort, PastTheLast, HeaderTooShort, SignatureUnknown, ListBroken, VersionUnknown, KeyTooLong, NotContainer, TooManyItems, ArenaFull, TableUnknown, TableInItself, NestedTooDeep, TooManyTables, SeparatorOutside, MemoryBroken, EmptyKey, ImageTooLong, HeadsTooFew, TooManyFilterWords, ReportTooShort, CheckBroken}
use Rattle.layout.specs.Refusal.{number, bad_at}

-- the refusal of a number and an offset; the last where a number has none
refusal : ℕ → ℕ → Refusal
refusal n at =
    pick (eqb n 1) FileTooLong (
    pick (eqb n 2) PointerOutside (
    pick (eqb n 3) Misaligned (
    pick (eqb n 4) TableTooShort (
    pick (eqb n 5) BloomTooLong (
    pick (eqb n 6) BucketsTooLong (
    pick (eqb n 7) ItemsUneven (
    pick (eqb n 8) (KeyNotUtf8 at) (
    pick (eqb n 9) (FragmentNotUtf8 at) (
    pick (eqb n 10) ParentOutside (
    pick (eqb n 11) ParentsEndless (
    pick (eqb n 12) KeyNotFound (
    pick (eqb n 13) OtherKind (
    pick (eqb n 14) BufferTooShort (
    pick (eqb n 15) PastTheLast (
    pick (eqb n 16) HeaderTooShort (
    pick (eqb n 17) SignatureUnknown (
    pick (eqb n 18) ListBroken (
    pick (eqb n 19) VersionUnknown (
    pick (eqb n 20) KeyTooLong (
    pick (eqb n 21) NotContainer (
    pick (eqb n 22) TooManyItems (
    pick (eqb n 23) ArenaFull (
    pick (eqb n 24) TableUnknown (
    pick (eqb n 25) TableInItself (
    pick (eqb n 26) NestedTooDeep (
    pick (eqb n 27) TooManyTables (
    pick (eqb n 28) SeparatorOutside (
    pick (eqb n 29) MemoryBroken (
    pick (eqb n 30) EmptyKey (
    pick (eqb n 31) ImageTooLong (
    pick (eqb n 32) HeadsTooFew (
    pick (eqb n 33) TooManyFilterWords (
    pick (eqb n 34) ReportTooShort (
    CheckBroken))))))))))))))))))))))))))))))))))

back : (why : Refusal) → refusal (number why) (bad_at why) ≡ why
unfolding pick refusal
back FileTooLong = refl
back PointerOutside = refl
back Misaligned = refl
back TableTooShort = refl
back BloomTooLong = refl
back BucketsTooLong = refl
back ItemsUneven = refl
back (KeyNotUtf8 at) = refl
back (FragmentNotUtf8 at) = refl
back ParentOutside = refl
back ParentsEndless = refl
back KeyNotFound = refl
back OtherKind = refl
back BufferTooShort = refl
back PastTheLast = refl
back HeaderTooShort = refl
back SignatureUnknown = refl
back ListBroken = refl
back VersionUnknown = refl
back KeyTooLong = refl
back NotContainer = refl
back TooManyItems = refl
back ArenaFull = refl
back TableUnknown = refl
back TableInItself = refl
back NestedTooDeep = refl
back TooManyTables = refl
back SeparatorOutside = refl
back MemoryBroken = refl
back EmptyKey = refl
back ImageTooLong = refl
back HeadsTooFew = refl
back TooManyFilterWords = refl
back ReportTooShort = refl
back CheckBroken = refl

pub refusal_by_numbers : (a b : Refusal) → number a ≡ number b → bad_at a ≡ bad_at b → a ≡ b
refusal_by_numbers a b e f = sym (back a) ∙ ap (λ (n : ℕ). refusal n (bad_at a)) e ∙ ap (refusal (number b)) f ∙ back b

-- no refusal has the number 0: it would be the last one, whose number is 40
pub refused_some : (why : Refusal) → number why ≡ 0 → ⊥
unfolding refusal pick
refused_some why e = let z : ◌≡◌ {A = ℕ} 0 40 = sym e ∙ ap number (sym (back why) ∙ ap (λ (n : ℕ). refusal n (bad_at why)) e) in omega arith
