-- One content, one image, over histories: a write lays the image of the model's table, which may be written.
use Rattle.std.specs.Prelude.{Ok}
use Prim.Native.Nat.{ℕ, ◌+◌, ◌^◌, ◌≤◌, ◌<◌}
use mathlib.Core.Path.{◌≡◌, sym, ap, ◌∙◌, subst}
use mathlib.Core.List.{List, ◌++◌}
use native.Mathlib.Omega.{arith}
use lib.ListN.{length, take, drop}
use lib.Seq.{drop-append_seam}
use Rattle.words.specs.Store.{zeros}
use Rattle.words.proofs.StoreLaws.{length-zeros}
use Rattle.key_hash.specs.Hash.{rule_of}
use Rattle.key_hash.specs.declared.hash.Form.{Form}
use Rattle.layout.specs.Limits.{deepest, longest_file, most_filter}
use Rattle.layout.specs.Sizes.{header_size, chunk_size}
use Rattle.file_header.specs.Header.{with_header}
use Rattle.file_header.proofs.HeaderReads.{laid_elsewhere}
use Rattle.model.specs.Table.{State}
use Rattle.model.specs.Builder.{Builder}
use Rattle.image.specs.Image.{table_bytes, image_of}
use Rattle.image.specs.WellFormed.{Writable}
use Rattle.laid.specs.Back.{end_of}
use Rattle.write_numbers.specs.Roster.{state_of}
use Rattle.write.specs.Write.{write_answer, image_after}
use Rattle.build_memory.specs.Meaning.{meaning}
use Rattle.answers.specs.Header.{order_of}
use Rattle.same.specs.Same.{Same}
use Rattle.same.proofs.Images.{one_content_one_image as images}
use Rattle.same.proofs.SameLaws.{count_same}
use Rattle.demands.specs.Model.{tables_of, built}
use Rattle.demands.specs.OneImage.{Wrote, tables, image, OneContentOneImage, OneImageOnePointer, OneContentOneFile}
use Rattle.demands.proofs.Contracts.{laying_header_is}
use Rattle.demands.proofs.Demands.{image_is}
use Rattle.demands.proofs.Models.{memory_means_the_builder}
use Rattle.demands.proofs.Write.{success, writable, short_image, file_is}

-- what a write that succeeds gives: the image of table t of a state
record Gives (form : Form) (filter : ℕ) (bytes : List ℕ) (t start end : ℕ) (state : State) : Type 0 where
  pub is : bytes ≡ image_of (rule_of form) filter state t
  pub writable : Writable state deepest t
  pub short : length (image_of (rule_of form) filter state t) ≤ longest_file
  pub few : filter < 2 ^ 27
  pub starts : start ≡ header_size
  pub ends : end ≡ end_of filter state t header_size

-- the memory's own tables, and these are the model's
of_memory : (form : Form) (filter : ℕ) (w : Wrote form filter) → Gives form filter (image w) w.table w.start w.end (state_of w.memory.words w.memory.arena)
of_memory form filter w =
    let ws = w.memory.words in
    let ar = w.memory.arena in
    let by = subst (λ (f : Form). (write_answer (rule_of f) filter ws ar w.table (length w.buffer) ≡ Ok (record { start = w.start; end = w.end; length = w.size })) × (w.left ≡ image_after (rule_of f) filter ws ar w.table w.buffer))
    w.named (image_is w.memory w.table w.buffer w.manner filter w.start w.end w.size w.after w.left w.writes) in
    let s = success (rule_of form) filter ws ar w.table (length w.buffer) w.start w.end w.size by.0 in
    let few : filter ≤ most_filter = s.few in
    record {
      is = ap (take w.size) by.1 ∙ file_is (rule_of form) filter ws ar w.buffer w.table w.start w.end w.size by.0;
      writable = writable (rule_of form) filter ws ar w.buffer w.table w.start w.end w.size by.0;
      short = short_image (rule_of form) filter ws ar w.buffer w.table w.start w.end w.size by.0;
      few = omega (arith, few);
      starts = s.starts;
      ends = s.ends;
    }

meant_same : (ws ar : List ℕ) (b : Builder) → meaning ws ar ≡ b → state_of ws ar ≡ tables_of b
unfolding state_of
meant_same ws ar b e = ap tables_of e

gives : (form : Form) (filter : ℕ) (w : Wrote form filter) → Gives form filter (image w) w.table w.start w.end (tables w)
gives form filter w =
    subst (Gives form filter (image w) w.table w.start w.end)
    (meant_same w.memory.words w.memory.arena (built w.room w.events) (memory_means_the_builder w.room w.events w.memory w.history)) (of_memory form filter w)

pub one_content_one_image : OneContentOneImage
one_content_one_image form filter a b =
    let p = gives form filter a in
    let q = gives form filter b in
    let (to, back) = images (rule_of form) filter p.few (tables a) (tables b) a.table b.table p.writable q.writable p.short in
    (λ s. p.is ∙ to s ∙ sym q.is, λ e. back (sym p.is ∙ e ∙ q.is))

pub one_image_one_pointer : OneImageOnePointer
one_image_one_pointer form filter a b e =
    let p = gives form filter a in
    let q = gives form filter b in
    let many = count_same (tables a) (tables b) deepest a.table b.table p.writable q.writable ((one_content_one_image form filter a b).1 e) in
    (p.starts ∙ sym q.starts, p.ends ∙ ap (λ (n : ℕ). header_size + chunk_size filter n) many ∙ sym q.ends)

-- an image is its zeros and what stands behind them, which a header leaves as it was
behind : (rule : ℕ → ℕ) (filter : ℕ) (state : State) (t : ℕ) → zeros header_size ++ drop header_size (image_of rule filter state t) ≡ image_of rule filter state t
unfolding image_of
behind rule filter state t =
    ap (λ (l : List ℕ). zeros header_size ++ l)
    (subst (λ (n : ℕ). drop n (zeros header_size ++ table_bytes rule filter state deepest t header_size) ≡ table_bytes rule filter state deepest t header_size) (length-zeros header_size)
    (drop-append_seam (zeros header_size) (table_bytes rule filter state deepest t header_size)))

rest_tells : (form : Form) (filter : ℕ) (a b : Wrote form filter) → drop header_size (image a) ≡ drop header_size (image b) → image a ≡ image b
rest_tells form filter a b e =
    let p = gives form filter a in
    let q = gives form filter b in
    p.is ∙ sym (behind (rule_of form) filter (tables a) a.table)
    ∙ ap (λ (l : List ℕ). zeros header_size ++ l) (ap (drop header_size) (sym p.is) ∙ e ∙ ap (drop header_size) q.is)
    ∙ behind (rule_of form) filter (tables b) b.table ∙ sym q.is

pub one_content_one_file : OneContentOneFile
one_content_one_file form filter a b big number other file copy lays lays-copy =
    let did : file ≡ with_header (image a) (order_of big) a.start a.end = (laying_header_is (image a) big a.start a.end number file lays).1 in
    let did-copy : copy ≡ with_header (image b) (order_of big) b.start b.end = (laying_header_is (image b) big b.start b.end other copy lays-copy).1 in
    let (to, back) = one_content_one_image form filter a b in (
      λ s. let e = to s in
          let (start, end) = one_image_one_pointer form filter a b e in
          did ∙ ap (λ (l : List ℕ). with_header l (order_of big) a.start a.end) e
          ∙ ap (λ (n : ℕ). with_header (image b) (order_of big) n a.end) start ∙ ap (with_header (image b) (order_of big) b.start) end ∙ sym did-copy,
      λ e. back (rest_tells form filter a b
          (sym (laid_elsewhere (image a) (order_of big) a.start a.end).1 ∙ ap (drop header_size) (sym did ∙ e ∙ did-copy) ∙ (laid_elsewhere (image b) (order_of big) b.start b.end).1)),
    )
