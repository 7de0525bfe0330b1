-- The numbers of document 01, 'Answer numbers', and of document 02.
use Rattle.std.specs.Prelude.{ℕ}
use Rattle.layout.specs.declared.refusal.Refusal.{Refusal}
use Rattle.layout.specs.declared.refusal.Refusal.TheVariants.{FileTooLong, PointerOutside, Misaligned, TableTooShort, BloomTooLong, BucketsTooLong, ItemsUneven, KeyNotUtf8, FragmentNotUtf8, ParentOutside, ParentsEndless, KeyNotFound, OtherKind, BufferTooShort, PastTheLast, HeaderTooShort, SignatureUnknown, ListBroken, VersionUnknown, KeyTooLong, NotContainer, TooManyItems, ArenaFull, TableUnknown, TableInItself, NestedTooDeep, TooManyTables, SeparatorOutside, MemoryBroken, EmptyKey, ImageTooLong, HeadsTooFew, TooManyFilterWords, ReportTooShort, CheckBroken}

abbrev pub number : Refusal → ℕ
number FileTooLong = 1
number PointerOutside = 2
number Misaligned = 3
number TableTooShort = 4
number BloomTooLong = 5
number BucketsTooLong = 6
number ItemsUneven = 7
number (KeyNotUtf8 at) = 8
number (FragmentNotUtf8 at) = 9
number ParentOutside = 10
number ParentsEndless = 11
number KeyNotFound = 12
number OtherKind = 13
number BufferTooShort = 14
number PastTheLast = 15
number HeaderTooShort = 16
number SignatureUnknown = 17
number ListBroken = 18
number VersionUnknown = 19
number KeyTooLong = 20
number NotContainer = 21
number TooManyItems = 22
number ArenaFull = 23
number TableUnknown = 24
number TableInItself = 25
number NestedTooDeep = 26
number TooManyTables = 27
number SeparatorOutside = 28
number MemoryBroken = 29
number EmptyKey = 30
number ImageTooLong = 31
number HeadsTooFew = 32
number TooManyFilterWords = 33
number ReportTooShort = 34
number CheckBroken = 40

-- the offset of the first bad sequence, in the given key with 8, in the stored fragment with 9; 0 where a refusal says none
abbrev pub bad_at : Refusal → ℕ
bad_at FileTooLong = 0
bad_at PointerOutside = 0
bad_at Misaligned = 0
bad_at TableTooShort = 0
bad_at BloomTooLong = 0
bad_at BucketsTooLong = 0
bad_at ItemsUneven = 0
bad_at (KeyNotUtf8 at) = at
bad_at (FragmentNotUtf8 at) = at
bad_at ParentOutside = 0
bad_at ParentsEndless = 0
bad_at KeyNotFound = 0
bad_at OtherKind = 0
bad_at BufferTooShort = 0
bad_at PastTheLast = 0
bad_at HeaderTooShort = 0
bad_at SignatureUnknown = 0
bad_at ListBroken = 0
bad_at VersionUnknown = 0
bad_at KeyTooLong = 0
bad_at NotContainer = 0
bad_at TooManyItems = 0
bad_at ArenaFull = 0
bad_at TableUnknown = 0
bad_at TableInItself = 0
bad_at NestedTooDeep = 0
bad_at TooManyTables = 0
bad_at SeparatorOutside = 0
bad_at MemoryBroken = 0
bad_at EmptyKey = 0
bad_at ImageTooLong = 0
bad_at HeadsTooFew = 0
bad_at TooManyFilterWords = 0
bad_at ReportTooShort = 0
bad_at CheckBroken = 0
