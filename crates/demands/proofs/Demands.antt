-- Demand 2: what the statement says holds of every history and every write that succeeds.
use Rattle.std.specs.Prelude.{Result, Ok, Err}
use Rattle.layout.specs.declared.refusal.Refusal.{Refusal}
use Rattle.write.specs.declared.Image.{Image}
use Prim.Native.Nat.{ℕ, zero, suc, ◌≤◌, ◌<◌}
use mathlib.Core.Path.{◌≡◌, refl, sym, ap, ◌∙◌, subst}
use mathlib.Core.Bool.{true}
use mathlib.Core.List.{List, [], ◌∷◌}
use native.Mathlib.Omega.{arith}
use borrow.Author.Tests.{lt-ltb, ltb-true}
use lib.Dec.{ltb}
use lib.ListN.{length, take, get_or}
use Rattle.key_hash.specs.Hash.{rule_of}
use Rattle.key_hash.specs.declared.hash.Form.{Form}
use Rattle.words.proofs.ChoiceLaws.{both, pick_true}
use Rattle.text.specs.Utf8.{is_utf8}
use Rattle.layout.specs.Answer.{opened_number}
use Rattle.layout.specs.Table.{open_table}
use Rattle.layout.proofs.RefusalLaws.{refused_some}
use Rattle.read.specs.Lookup.{lookup_table}
use Rattle.model.specs.Table.{Content, State, Has, rows_of}
use Rattle.model.specs.Builder as model
use Rattle.model.specs.Builder.{Builder}
use Rattle.build_memory.specs.Memory.{Memory, table_total}
use Rattle.build_memory.specs.Meaning.{meaning, standing_of}
use Rattle.build_tables.specs.Table.{item_count}
use Rattle.build_tables.specs.Answer.{counted_number, counted_items}
use Rattle.build_rules.specs.Valid.{fully_valid}
use Rattle.build_rules.proofs.ValidFacts.{whole_facts}
use Rattle.layout.specs.Sizes.{header_size}
use Rattle.layout.specs.Limits.{deepest, most_filter}
use Rattle.image.specs.Fits.{opened_as}
use Rattle.laid.specs.Back.{end_of, table_opened}
use Rattle.laid.specs.Told.{TableBack, AllBack}
use Rattle.write_numbers.specs.Roster.{state_of}
use Rattle.build_tables.specs.Table.{free_standing}
use Rattle.write.specs.Write.{written_number, write_answer, image_after}
use Rattle.write_numbers.proofs.StateLaws.{state_below}
use Rattle.write_slots.proofs.StateLaws.{content_is}
use Rattle.history.specs.Honest.{Honest}
use Rattle.history.proofs.History.{reached_honest}
use Rattle.history.proofs.ModelCalls.{count_alike}
use Rattle.build_memory.proofs.MeaningLaws.{length-listed}
use Rattle.answers.specs.declared.reading.GvdbOpened.{GvdbOpened}
use Rattle.answers.specs.Reading.{opened_count, opened_answer}
use Rattle.answers.specs.Manner.{form_of}
use Rattle.answers_build.specs.Writing.{written_image}
use Rattle.demands.specs.Calls.{Call, Does, Event, History}
use Rattle.demands.specs.Readers.{read_by, Opening}
use Rattle.demands.specs.Last.{Held, held}
use Rattle.demands.specs.Model.{counted, written}
use Rattle.demands.specs.Demand2.{Tells, Opens, Answers, Demand2}
use Rattle.demands.proofs.Contracts.{answers, leaves_lent, does_is, opening_is}
use Rattle.demands.proofs.Told.{lay_by, value-told, table-told, both_told, bytes-told, pointer_told}
use Rattle.demands.proofs.HeldLaws.{held_in}
use Rattle.demands.proofs.Rows.{item_of_lem, no_item}
use Rattle.demands.proofs.Writable.{holds_guest}
use Rattle.demands.proofs.Write.{success, success_back}
use Rattle.demands.specs.Means.{meant}
use Rattle.demands.proofs.Models.{stands, memory_means_the_builder}
use Rattle.demands.proofs.Histories.{held_is}

-- ---- a write that succeeds, as its contract tells it

image_by : (w : Result Image Refusal) (start end size : ℕ) → 0 ∷ start ∷ end ∷ size ∷ [] ≡ written w → w ≡ Ok (record { start = start; end = end; length = size })
unfolding written written_number written_image
image_by (Ok i) start end size e =
    let starts : i.start ≡ start = cc in
    let ends : i.end ≡ end = cc in
    let long : i.length ≡ size = cc in
    ap (λ (s : ℕ). Ok (record { start = s; end = i.end; length = i.length })) starts
    ∙ ap (λ (s : ℕ). Ok (record { start = start; end = s; length = i.length })) ends
    ∙ ap (λ (s : ℕ). Ok (record { start = start; end = end; length = s })) long
image_by (Err why) start end size e = absurd (refused_some why (let z : 0 ≡ _ = ap (λ (l : List ℕ). get_or l 0 0) e in sym z))

pub image_is : (m : Memory) (t : ℕ) (buffer : List ℕ) (manner filter start end size : ℕ) (after : Memory) (left : List ℕ)
    → Does m (Call.write t buffer manner filter) (0 ∷ start ∷ end ∷ size ∷ []) after left
    → (write_answer (rule_of (form_of manner)) filter m.words m.arena t (length buffer) ≡ Ok (record { start = start; end = end; length = size })) × (left ≡ image_after (rule_of (form_of manner)) filter m.words m.arena t buffer)
unfolding answers leaves_lent
image_is m t buffer manner filter start end size after left d =
    let did = does_is m (Call.write t buffer manner filter) _ after left d in
    (image_by _ start end size did.answer, did.lent)

-- by the form of a reader, which is the write's
pub image_read : (m : Memory) (t : ℕ) (buffer : List ℕ) (manner filter start end size : ℕ) (after : Memory) (left : List ℕ)
    → Does m (Call.write t buffer manner filter) (0 ∷ start ∷ end ∷ size ∷ []) after left → (reader : ℕ) → form_of reader ≡ form_of manner
    → (write_answer (rule_of (form_of reader)) filter m.words m.arena t (length buffer) ≡ Ok (record { start = start; end = end; length = size })) × (left ≡ image_after (rule_of (form_of reader)) filter m.words m.arena t buffer)
image_read m t buffer manner filter start end size after left d reader same =
    subst (λ (f : Form). (write_answer (rule_of f) filter m.words m.arena t (length buffer) ≡ Ok (record { start = start; end = end; length = size })) × (left ≡ image_after (rule_of f) filter m.words m.arena t buffer))
    (sym same) (image_is m t buffer manner filter start end size after left d)

-- ---- a table of the memory, as a reader finds it

module _ (manner filter : ℕ) (few : filter ≤ most_filter) (file ws ar : List ℕ) (t at : ℕ) (back : TableBack (lay_by manner filter few) file (state_of ws ar) t at) where
  abbrev end : ℕ
  end = end_of filter (state_of ws ar) t at

  -- a key is told what stands under it; `inside` is what holds of a nested table
  told : (inside : ℕ → ℕ → ℕ → Type 0)
      → ((i u : ℕ) → Has (state_of ws ar t).members i → (state_of ws ar t).content i ≡ Content.nested u
      → (from : ℕ) × (to : ℕ) × (lookup_table (read_by manner) file at end ((state_of ws ar t).key i) ≡ Ok (record { start = from; end = to })) × inside u from to)
      → (key : List ℕ) → is_utf8 key ≡ true → (h : Held) → held_in (meaning ws ar).items t key ≡ h → Tells manner inside file at end key h
  unfolding Tells
  told inside nest key text Held.nothing is = both_told file at end key manner 12 (back.absent key text (no_item ws ar t key is))
  told inside nest key text (Held.holds (Content.bytes value)) is =
      let x = item_of_lem ws ar t key (Content.bytes value) is in
      subst (λ (k : List ℕ). Tells manner inside file at end k (Held.holds (Content.bytes value))) x.key
      (bytes-told file at end _ manner value (back.values x.item value x.has x.content), table-told file at end _ manner 13 (back.no_table x.item value x.has x.content))
  told inside nest key text (Held.holds (Content.nested u)) is =
      let x = item_of_lem ws ar t key (Content.nested u) is in
      let n = nest x.item u x.has x.content in
      subst (λ (k : List ℕ). Tells manner inside file at end k (Held.holds (Content.nested u))) x.key (
        value-told file at end _ manner 13 (back.no_value x.item u x.has x.content),
        λ r g.
            let p = pointer_told file at end _ manner n.0 n.1 n.2 r g in
            (p.0, rw (p.1, p.2) n.3),
      )
  told inside nest key text (Held.holds Content.container) is =
      let x = item_of_lem ws ar t key Content.container is in
      subst (λ (k : List ℕ). Tells manner inside file at end k (Held.holds Content.container)) x.key (both_told file at end _ manner 13 (back.containers x.item x.has x.content))

-- the builder counts as many items as the table opens with
counts : (ws ar : List ℕ) → Honest ws ar → (t : ℕ) → t < table_total ws → item_count ws ar t ≡ Ok (length (state_of ws ar t).members)
unfolding model.item_count state_of rows_of meaning
counts ws ar honest t known =
    count_alike ws ar honest t
    ∙ pick_true _ _ (lt-ltb t (length (meaning ws ar).tables) (omega (arith, length-listed (standing_of ws) (table_total ws))))

opens : (m : Memory) → Honest m.words m.arena → (file : List ℕ) (filter t at end : ℕ) → t < table_total m.words
    → open_table file at end ≡ Ok (table_opened filter (state_of m.words m.arena) t at) → Opens m t file at end
unfolding Opens opened_answer opened_number opened_count opened_as answers counted counted_number counted_items
opens m honest file filter t at end known is r o =
    let e = opening_is file at end r o ∙ ap opened_answer is in (
      ap (λ (x : GvdbOpened). x.number) e,
      λ said after left d.
          (does_is m (Call.item_count t) said after left d).answer ∙ ap counted (counts m.words m.arena honest t known)
          ∙ ap (λ (x : GvdbOpened). 0 ∷ x.items ∷ []) (sym e),
    )

-- a table that an item holds is known
guest_known : (ws ar : List ℕ) → fully_valid ws ar ≡ true → (t i u : ℕ) → Has (state_of ws ar t).members i → (state_of ws ar t).content i ≡ Content.nested u → u < table_total ws
guest_known ws ar whole t i u has is =
    let l = state_below ws ar t i has in
    let (kind, guest) = holds_guest ws ar i u (sym (content_is ws ar t i l) ∙ is) in
    subst (λ (g : ℕ). g < table_total ws) guest ((whole_facts ws ar whole).guest i l kind).known

-- ---- demand 2

module _ (room : ℕ) (events : List Event) (m : Memory) (h : History room events m) (manner filter : ℕ) (few : filter ≤ most_filter) (file : List ℕ) where
  abbrev state : State
  state = state_of m.words m.arena

  -- what the items hold is what the calls say
  holds : (t : ℕ) (key : List ℕ) → held_in (meant m).items t key ≡ held t key events
  holds t key = ap (λ (b : Builder). held_in b.items t key) (memory_means_the_builder room events m h) ∙ held_is t key room events m h

  pub reads : fully_valid m.words m.arena ≡ true → (d t at : ℕ) → t < table_total m.words → AllBack (lay_by manner filter few) file state d t at → Answers manner events m file d t at (end_of filter state t at)
  unfolding AllBack Answers
  reads whole zero t at known back = back
  reads whole (suc d) t at known back = (
    opens m (reached_honest _ _ (stands room events m h).reached) file filter t at (end_of filter state t at) known back.0.opens,
    λ key text.
        subst (Tells manner (λ u from to. Answers manner events m file d u from to) file at (end_of filter state t at) key) (holds t key)
        (told manner filter few file m.words m.arena t at back.0 (λ u from to. Answers manner events m file d u from to)
        (λ i u has is.
        let r = back.1 i u has is in
        (r.0, end_of filter state u r.0, r.1, reads whole d u r.0 (guest_known m.words m.arena whole t i u has is) r.2))
        key text (held_in (meant m).items t key) refl),
    λ key bad. both_told file at (end_of filter state t at) key manner 8 (back.0.not_text key bad),
  )

pub demand_2 : Demand2
unfolding free_standing
demand_2 room events m h t buffer manner filter start end size after left d reader same =
    let (is, laid) = image_read m t buffer manner filter start end size after left d reader same in
    let s = success (rule_of (form_of reader)) filter m.words m.arena t (length buffer) start end size is in
    let back = success_back (lay_by reader filter s.few) m.words m.arena buffer t start end size is in
    let known : t < table_total m.words = ltb-true _ _ (both (ltb t (table_total m.words)) _ s.root).0 in
    let file = take size (image_after (rule_of (form_of reader)) filter m.words m.arena t buffer) in
    subst (λ (bytes : List ℕ). Answers reader events m (take size bytes) deepest t start end) (sym laid)
    (subst (λ (at : ℕ). Answers reader events m file deepest t at end) (sym s.starts)
    (subst (λ (to : ℕ). Answers reader events m file deepest t header_size to) (sym s.ends)
    (reads room events m h reader filter s.few file s.whole deepest t header_size known back)))
