-- Demand 3: every table in every image that is laid passes; the check passes exactly the sound tables, and names the first item and rule broken.
use Rattle.std.specs.Prelude.{Result, Ok, Err}
use Rattle.layout.specs.declared.table.Table.{Table}
use Rattle.layout.specs.declared.refusal.Refusal.{Refusal}
use Rattle.layout.specs.declared.pointer.Pointer.{Pointer}
use Prim.Native.Nat.{ℕ, zero, suc, ◌≤◌}
use mathlib.Core.Path.{◌≡◌, refl, sym, ap, ◌∙◌, subst}
use mathlib.Core.Bool.{Bool, true, false}
use mathlib.Core.List.{List}
use native.Mathlib.Omega.{arith}
use lib.ListN.{length, take}
use Rattle.layout.specs.Limits.{deepest, most_filter}
use Rattle.layout.specs.Sizes.{header_size}
use Rattle.layout.proofs.RefusalLaws.{refused_some}
use Rattle.key_hash.specs.Hash.{rule_of}
use Rattle.text.specs.Utf8.{is_utf8}
use Rattle.layout.specs.declared.refusal.Refusal.TheVariants.{CheckBroken}
use Rattle.layout.specs.Answer.{opened_number}
use Rattle.layout.specs.Table.{open_table}
use Rattle.layout.proofs.AnswerLaws.{opened_low}
use Rattle.read.proofs.SoughtLaws.{same_pointer}
use Rattle.read.specs.Lookup.{lookup_table}
use Rattle.read.specs.Answer.{looked_number}
use Rattle.read_listing.specs.Answer.{listed_number, listed_at}
use Rattle.check_rules.specs.declared.checked.Checked.{Checked}
use Rattle.check_rules.specs.Rules.{check_table}
use Rattle.check_rules.specs.Answer.{checked_number, checked_rule, checked_item, checked_why, checked_at}
use Rattle.check_rules.specs.Broken.{BrokenAt}
use Rattle.check_table.proofs.SoundLaws as sound
use Rattle.check_table.proofs.BrokenLaws as broken
use Rattle.model.specs.Table.{Content}
use Rattle.build_memory.specs.Meaning.{meaning}
use Rattle.laid.specs.Back.{end_of}
use Rattle.laid.specs.Told.{TableBack, AllBack}
use Rattle.laid.specs.Passing as laid
use Rattle.write_numbers.specs.Roster.{state_of}
use Rattle.write.specs.Write.{image_after}
use Rattle.answers.specs.declared.reading.GvdbOpened.{GvdbOpened}
use Rattle.answers.specs.declared.reading.GvdbPlace.{GvdbPlace}
use Rattle.answers.specs.declared.reading.GvdbKey.{GvdbKey}
use Rattle.answers.specs.declared.checking.GvdbCheck.{GvdbCheck}
use Rattle.answers.specs.Manner.{form_of}
use Rattle.answers.specs.Reading.{opened_answer, listed_answer}
use Rattle.answers.specs.Checking.{checked_answer}
use Rattle.demands.specs.Last.{Held}
use Rattle.demands.specs.Demand3.{AllPass, EveryImagePasses, PassesExactlyTheSound, NamesTheFirst, SaysWhy, OpensFirst}
use Rattle.demands.specs.Readers.{read_by, Listing}
use Rattle.demands.proofs.Contracts.{opening_is, listing_is, checking_is}
use Rattle.demands.proofs.Told.{lay_by, told_pointer}
use Rattle.demands.proofs.HeldLaws.{held_in}
use Rattle.demands.proofs.Rows.{ItemOf, item_of_lem, no_item}
use Rattle.demands.proofs.Write.{success, success_back, success_passes}
use Rattle.demands.proofs.Demands.{image_read}

-- ---- the check's numbers

-- 0 is said of a table that passes alone
sound_by : (c : Checked) → checked_number c ≡ 0 → c ≡ Checked.Sound
unfolding checked_number
sound_by Checked.Sound e = refl
sound_by (Checked.Broken rule item) e = absurd (refused_some CheckBroken e)
sound_by (Checked.Unlisted why item) e = absurd (refused_some CheckBroken e)
sound_by (Checked.Refused why) e = absurd (refused_some why e)

pub passes_exactly_the_sound : PassesExactlyTheSound
unfolding checked_answer checked_number
passes_exactly_the_sound file start end manner r c =
    let said = ap (λ (x : GvdbCheck). x.number) (checking_is file start end manner r c) in
    let exactly = sound.passes_exactly_the_sound (read_by manner) file start end in
    (λ e. exactly.0 (sound_by _ (sym said ∙ e)), λ s. said ∙ ap checked_number (exactly.1 s))

pub names_the_first : NamesTheFirst
unfolding checked_answer checked_number checked_rule checked_item
names_the_first file start end manner r c e =
    let is = checking_is file start end manner r c in
    by (check_table (read_by manner) file start end) refl is (sym (ap (λ (x : GvdbCheck). x.number) is) ∙ e)
  where
    by : (a : Checked) → check_table (read_by manner) file start end ≡ a → r ≡ checked_answer a → checked_number a ≡ 40 → BrokenAt (read_by manner) file start end r.rule r.item
    by Checked.Sound said is n = absurd (omega arith)
    by (Checked.Broken rule item) said is n =
        subst (λ (x : GvdbCheck). BrokenAt (read_by manner) file start end x.rule x.item) (sym is) (((broken.names_the_first (read_by manner) file start end item).0 rule).0 said).0
    by (Checked.Unlisted why item) said is n =
        subst (λ (x : GvdbCheck). BrokenAt (read_by manner) file start end x.rule x.item) (sym is) (((broken.names_the_first (read_by manner) file start end item).1 why).0 said).0
    by (Checked.Refused why) said is n = absurd (omega (arith, opened_low file start end ((broken.refused_as_opening (read_by manner) file start end why).0 said)))

pub says_why : SaysWhy
unfolding checked_answer checked_rule checked_item checked_why checked_at listed_answer listed_number listed_at
says_why file start end manner r c = by (check_table (read_by manner) file start end) refl (checking_is file start end manner r c)
  where
    by : (a : Checked) → check_table (read_by manner) file start end ≡ a → r ≡ checked_answer a
        → (r.rule ≡ 1 → (out : List ℕ) (k : GvdbKey) (left : List ℕ) → Listing file start end r.item out k left → (r.why ≡ k.number) × (r.at ≡ k.at))
        × ((r.rule ≡ 1 → ⊥) → (r.why ≡ 0) × (r.at ≡ 0))
    by Checked.Sound said is = (λ e. absurd (omega (arith, e, ap (λ (x : GvdbCheck). x.rule) is)), λ n. (ap (λ (x : GvdbCheck). x.why) is, ap (λ (x : GvdbCheck). x.at) is))
    by (Checked.Broken rule item) said is = (
      λ e. absurd ((((broken.names_the_first (read_by manner) file start end item).0 rule).0 said).1 (sym (ap (λ (x : GvdbCheck). x.rule) is) ∙ e)),
      λ n. (ap (λ (x : GvdbCheck). x.why) is, ap (λ (x : GvdbCheck). x.at) is),
    )
    by (Checked.Unlisted why item) said is = (
      λ e out k left l.
          let here = subst (λ (i : ℕ). Listing file start end i out k left) (ap (λ (x : GvdbCheck). x.item) is) l in
          let told : k ≡ listed_answer (Err why) = (listing_is file start end item out k left here).0 ∙ ap listed_answer (broken.unlisted_why (read_by manner) file start end item (length out) why said) in
          (ap (λ (x : GvdbCheck). x.why) is ∙ sym (ap (λ (x : GvdbKey). x.number) told), ap (λ (x : GvdbCheck). x.at) is ∙ sym (ap (λ (x : GvdbKey). x.at) told)),
      λ n. absurd (n (ap (λ (x : GvdbCheck). x.rule) is)),
    )
    by (Checked.Refused why) said is = (λ e. absurd (omega (arith, e, ap (λ (x : GvdbCheck). x.rule) is)), λ n. (ap (λ (x : GvdbCheck). x.why) is, ap (λ (x : GvdbCheck). x.at) is))

pub opens_first : OpensFirst
unfolding opened_answer opened_number checked_answer checked_number
opens_first file start end manner o r opened checked shut =
    let is = opening_is file start end o opened in
    by (open_table file start end) refl is
  where
    by : (a : Result Table Refusal) → open_table file start end ≡ a → o ≡ opened_answer a → r.number ≡ o.number
    by (Ok t) said is = absurd (shut (ap (λ (x : GvdbOpened). x.number) is))
    by (Err why) said is =
        ap (λ (x : GvdbCheck). x.number) (checking_is file start end manner r checked) ∙ ap checked_number ((broken.refused_as_opening (read_by manner) file start end why).1 said)
        ∙ ap (λ (x : GvdbOpened). x.number) (sym is)

-- ---- every image passes

-- an answer with a pointer has no refusal's number
placed_none : (l : Result Pointer Refusal) (from to n : ℕ) → l ≡ Ok (record { start = from; end = to }) → looked_number l ≡ suc n → ⊥
unfolding looked_number
placed_none l from to n is e = let z : ◌≡◌ {A = ℕ} 0 (suc n) = sym (ap looked_number is) ∙ e in omega arith

pub same_place : (l : Result Pointer Refusal) (a b c d : ℕ) → l ≡ Ok (record { start = a; end = b }) → l ≡ Ok (record { start = c; end = d }) → (a ≡ c) × (b ≡ d)
same_place l a b c d p q = same_pointer (sym p ∙ q)

module _ (manner filter : ℕ) (few : filter ≤ most_filter) (file ws ar : List ℕ) where
  -- a key that answers a nested table is the key of an item that holds one
  pub record Nests (t : ℕ) (key : List ℕ) : Type 0 where
    pub guest : ℕ
    pub item : ItemOf ws ar t key (Content.nested guest)

  pub nests : (t at : ℕ) → TableBack (lay_by manner filter few) file (state_of ws ar) t at → (key : List ℕ) (from to : ℕ) → lookup_table (read_by manner) file at (end_of filter (state_of ws ar) t at) key ≡ Ok (record { start = from; end = to }) → Nests t key
  nests t at back key from to is = by_text (is_utf8 key) refl
    where
      by_held : (h : Held) → is_utf8 key ≡ true → held_in (meaning ws ar).items t key ≡ h → Nests t key
      by_held Held.nothing text e = absurd (placed_none _ from to 11 is (back.absent key text (no_item ws ar t key e)).table)
      by_held (Held.holds (Content.bytes value)) text e =
          let x = item_of_lem ws ar t key (Content.bytes value) e in
          absurd (placed_none _ from to 12 is (subst (λ (k : List ℕ). looked_number (lookup_table (read_by manner) file at (end_of filter (state_of ws ar) t at) k) ≡ 13) x.key (back.no_table x.item value x.has x.content)))
      by_held (Held.holds (Content.nested u)) text e = record { guest = u; item = item_of_lem ws ar t key (Content.nested u) e }
      by_held (Held.holds Content.container) text e =
          let x = item_of_lem ws ar t key Content.container e in
          absurd (placed_none _ from to 12 is (subst (λ (k : List ℕ). looked_number (lookup_table (read_by manner) file at (end_of filter (state_of ws ar) t at) k) ≡ 13) x.key (back.containers x.item x.has x.content).table))

      by_text : (b : Bool) → is_utf8 key ≡ b → Nests t key
      by_text true e = by_held (held_in (meaning ws ar).items t key) e refl
      by_text false e = absurd (placed_none _ from to 7 is (back.not_text key e).table)

  pub all_pass : (d t at : ℕ) → AllBack (lay_by manner filter few) file (state_of ws ar) d t at → laid.AllPass (lay_by manner filter few) file (state_of ws ar) d t at → AllPass manner file d at (end_of filter (state_of ws ar) t at)
  unfolding AllBack laid.AllPass AllPass checked_answer checked_number
  all_pass zero t at back pass = pass
  all_pass (suc d) t at back pass = (
    λ r c. ap (λ (x : GvdbCheck). x.number) (checking_is file at (end_of filter (state_of ws ar) t at) manner r c) ∙ ap checked_number pass.0,
    λ key r g e.
        let is = told_pointer file at (end_of filter (state_of ws ar) t at) key manner r g e in
        let n = nests t at back.0 key r.start r.end is in
        let x = n.item in
        let u = n.guest in
        let b = back.1 x.item u x.has x.content in
        let p = pass.1 x.item u x.has x.content in
        let here : lookup_table (read_by manner) file at (end_of filter (state_of ws ar) t at) ((state_of ws ar t).key x.item) ≡ Ok (record { start = r.start; end = r.end }) =
        ap (lookup_table (read_by manner) file at (end_of filter (state_of ws ar) t at)) x.key ∙ is in
        let pb = same_place _ b.0 (end_of filter (state_of ws ar) u b.0) p.0 (end_of filter (state_of ws ar) u p.0) b.1 p.1 in
        let pp = same_place _ p.0 (end_of filter (state_of ws ar) u p.0) r.start r.end p.1 here in
        subst (λ (f : ℕ). AllPass manner file d f r.end) pp.0
        (subst (AllPass manner file d p.0) pp.1
        (all_pass d u p.0 (subst (AllBack (lay_by manner filter few) file (state_of ws ar) d u) pb.0 b.2) p.2)),
  )

pub every_image_passes : EveryImagePasses
every_image_passes m t buffer manner filter start end size after left d reader same =
    let (is, laid-is) = image_read m t buffer manner filter start end size after left d reader same in
    let ws = m.words in
    let ar = m.arena in
    let s = success (rule_of (form_of reader)) filter ws ar t (length buffer) start end size is in
    let lay = lay_by reader filter s.few in
    let file = take size (image_after (rule_of (form_of reader)) filter ws ar t buffer) in
    subst (λ (bytes : List ℕ). AllPass reader (take size bytes) deepest start end) (sym laid-is)
    (subst (λ (at : ℕ). AllPass reader file deepest at end) (sym s.starts)
    (subst (AllPass reader file deepest header_size) (sym s.ends)
    (all_pass reader filter s.few file ws ar deepest t header_size (success_back lay ws ar buffer t start end size is) (success_passes lay ws ar buffer t start end size is))))
