-- A contract leaves one answer, and one content of each buffer that is lent to be written. It is said of the contract itself, as the checker reads it in the source
-- (`FUNCTION.Reads.Post`): of the lifetimes, the arguments, the answer, and what the arguments hold at the end.
use Rattle.std.specs.Prelude.{ℕ, ◌≡◌, List}
use contract.Lifetimes.{Lfts}
use Rattle.std.specs.Borrow.{Bor}
use denote.Triple.Clauses.{AtExit}
use borrow.Fn.Kinds.{ParamKind, ResultKind, Dens, res_t, ended_of, Out}

module _ {n : ℕ} (ps : List (ParamKind n)) (r : ResultKind n) (Post : Out n ps r) where
  -- two answers s and t, with what x and y hold, that meet the contract on the same arguments are the same
  abbrev pub One : ((κs : Lfts n) → (res_t r κs).Denot → (res_t r κs).Denot → AtExit (ended_of n ps r) κs → AtExit (ended_of n ps r) κs → Type 0) → Type 0
  One Same =
      (κs : Lfts n) (a : Dens κs ps) (s t : (res_t r κs).Denot) (x y : AtExit (ended_of n ps r) κs) → Post κs a s x → Post κs a t y → Same κs s t x y

  -- of a function that writes nothing
  abbrev pub OneAnswer : Type 0
  OneAnswer = One (λ κs s t x y. s ≡ t)

-- two slices are the same bytes of the same memory
abbrev pub SameSlice : Bor (List ℕ) → Bor (List ℕ) → Type 0
SameSlice s t = (s.ref_ptr.0 ≡ t.ref_ptr.0) × (s.ref_ptr.1 ≡ t.ref_ptr.1) × (s.now ≡ t.now)
