-- The whole file: the header over an image that was laid is taken, reads back, and leaves the tables as they were.
use Rattle.std.specs.Prelude.{Ok}
use Prim.Native.Nat.{ℕ, ◌^◌, ◌≤◌, ◌<◌}
use mathlib.Core.Path.{◌≡◌, refl, ap, ◌∙◌}
use mathlib.Core.Bool.{Bool, true, false}
use mathlib.Core.List.{List}
use native.Mathlib.Omega.{arith}
use borrow.Author.Tests.{le-ltb, ltb-true}
use lib.Dec.{ltb, eqb}
use lib.ListN.{length, take, length-append}
use Rattle.words.specs.Choice.{pick}
use Rattle.words.specs.Store.{put_at, zeros}
use Rattle.key_hash.specs.Hash.{rule_of}
use Rattle.words.proofs.ChoiceLaws.{both}
use Rattle.words.proofs.StoreLaws.{length-put, length-zeros}
use Rattle.file_header.specs.declared.header.ByteOrder.{ByteOrder}
use Rattle.layout.specs.Limits.{longest_file, deepest}
use Rattle.layout.specs.Sizes.{header_size, chunk_size}
use Rattle.file_header.specs.Answer.{headed_number, headed_order, headed_pointer, header_laid_number, order_number}
use Rattle.file_header.specs.Header.{header_bytes, read_header, header_laid, with_header}
use Rattle.layout.proofs.OpenLaws.{opened_in_file}
use Rattle.file_header.proofs.HeaderLaws.{length_header, laid_there}
use Rattle.file_header.proofs.HeaderReads.{laid_is_read}
use Rattle.model.specs.Table.{State}
use Rattle.image.specs.Image.{table_bytes, image_of}
use Rattle.image.specs.WellFormed.{Writable}
use Rattle.image.specs.Laid.{Holds}
use Rattle.image.specs.Fits.{opened_as}
use Rattle.laid.specs.Back.{Lay}
use Rattle.laid.specs.Told.{AllBack}
use Rattle.laid.proofs.ImageBack.{root_back, headed-held}
use Rattle.laid.proofs.Passes.{root_passes}
use Rattle.build_memory.specs.Memory.{Memory, table_total}
use Rattle.build_tables.specs.Table.{free_standing}
use Rattle.write_numbers.specs.Roster.{state_of}
use Rattle.write.specs.Write.{write_answer, image_after}
use Rattle.answers.specs.Manner.{form_of}
use Rattle.answers.specs.Header.{order_of, headed_answer}
use Rattle.demands.specs.Success.{Success}
use Rattle.demands.specs.File.{FileLaid, HeaderIsTaken, HeaderReadsBack, Demand2File, Demand3File}
use Rattle.demands.specs.Demand3.{AllPass}
use Rattle.demands.proofs.Told.{lay_by}
use Rattle.demands.proofs.Contracts.{reading_header_is, laying_header_is}
use Rattle.demands.proofs.Write.{success, writable, short_image, file_is}
use Rattle.demands.proofs.Demands.{image_read, reads}
use Rattle.demands.proofs.Checks.{all_pass}

module _ (m : Memory) (t big manner filter start end number : ℕ) (file : List ℕ) (f : FileLaid m t big manner filter start end number file) (reader : ℕ) (same : form_of reader ≡ form_of manner) where
  abbrev rule : ℕ → ℕ
  rule = rule_of (form_of reader)

  abbrev ws : List ℕ
  ws = m.words

  abbrev ar : List ℕ
  ar = m.arena

  abbrev state : State
  state = state_of ws ar

  abbrev image : List ℕ
  image = image_of rule filter state t

  wrote : (write_answer rule filter ws ar t (length f.buffer) ≡ Ok (record { start = start; end = end; length = f.size })) × (f.left ≡ image_after rule filter ws ar t f.buffer)
  wrote = image_read m t f.buffer manner filter start end f.size f.after f.left f.writes reader same

  pub made : Success rule filter ws ar t (length f.buffer) start end f.size
  made = success rule filter ws ar t (length f.buffer) start end f.size wrote.0

  -- the target of the header is the image
  target : take f.size f.left ≡ image
  target = ap (take f.size) wrote.1 ∙ file_is rule filter ws ar f.buffer t start end f.size wrote.0

  good : Writable state deepest t
  good = writable rule filter ws ar f.buffer t start end f.size wrote.0

  short : length image ≤ longest_file
  short = short_image rule filter ws ar f.buffer t start end f.size wrote.0

  long : header_size ≤ length image
  unfolding image_of
  long = omega (arith, length-append (zeros header_size) (table_bytes rule filter state deepest t header_size), length-zeros header_size)

  abbrev header : List ℕ
  header = header_bytes (order_of big) start end

  did : (number ≡ header_laid_number (header_laid (length (take f.size f.left)))) × (file ≡ with_header (take f.size f.left) (order_of big) start end)
  did = laying_header_is (take f.size f.left) big start end number file f.lays

  taken : header_laid (length image) ≡ Ok tt
  unfolding header_laid pick
  taken = simp (le-ltb _ _ short, le-ltb _ _ long)

  -- the file
  pub is_headed : file ≡ put_at image 0 header
  is_headed = did.1 ∙ ap (λ (l : List ℕ). with_header l (order_of big) start end) target ∙ laid_there image (order_of big) start end short long

  short_file : length file ≤ longest_file
  short_file = omega (arith, ap length is_headed, length-put image 0 header, short)

  held : Holds file header_size (table_bytes rule filter state deepest t header_size)
  held = rw is_headed (headed-held rule filter state t header (length_header (order_of big) start end))

  abbrev lay : Lay
  lay = lay_by reader filter made.few

  pub back : AllBack lay file state deepest t header_size
  back = root_back lay state t good file short_file held

  -- the root pointer lies in the file, so each of its numbers is one of four bytes
  end_small : end < 2 ^ 32
  unfolding AllBack opened_as chunk_size
  end_small = omega (arith, made.ends, short, (opened_in_file _ _ _ back.0.opens).items, short_file)

  start_small : start < 2 ^ 32
  start_small = omega (arith, made.starts)

  pub number_0 : number ≡ 0
  unfolding header_laid_number
  number_0 = did.0 ∙ ap (λ (l : List ℕ). header_laid_number (header_laid (length l))) target ∙ ap header_laid_number taken

  pub read_again : read_header file ≡ Ok (record { order = order_of big; start = start; end = end })
  read_again =
      ap read_header (did.1 ∙ ap (λ (l : List ℕ). with_header l (order_of big) start end) target)
      ∙ laid_is_read image (order_of big) start end taken start_small end_small

  pub file_passes : AllPass reader file deepest start end
  file_passes = rw (made.starts, made.ends) (all_pass reader filter made.few file ws ar deepest t header_size back (root_passes lay state t good file short_file held))

pub header_is_taken : HeaderIsTaken
header_is_taken m t big manner filter start end number file f = number_0 m t big manner filter start end number file f manner refl

order_number_lem : (big : ℕ) → order_number (order_of big) ≡ pick (eqb big 0) 0 1
unfolding order_of pick
order_number_lem big = by (eqb big 0)
  where
    by : (b : Bool) → order_number (pick b ByteOrder.Little ByteOrder.Big) ≡ pick b 0 1
    by true = refl
    by false = refl

pub header_reads_back : HeaderReadsBack
unfolding headed_answer headed_number headed_order headed_pointer
header_reads_back m t big manner filter start end number file f r reading =
    reading_header_is file r reading ∙ ap headed_answer (read_again m t big manner filter start end number file f manner refl)
    ∙ ap (λ (b : ℕ). record { number = 0; big = b; start = start; end = end }) (order_number_lem big)

pub demand_2_file : Demand2File
unfolding free_standing
demand_2_file room events m h t big manner filter start end number file f reader same =
    let s = made m t big manner filter start end number file f reader same in
    let known : t < table_total m.words = ltb-true _ _ (both (ltb t (table_total m.words)) _ s.root).0 in
    rw (s.starts, s.ends) (reads room events m h reader filter s.few file s.whole deepest t header_size known (back m t big manner filter start end number file f reader same))

pub demand_3_file : Demand3File
demand_3_file m t big manner filter start end number file f reader same = file_passes m t big manner filter start end number file f reader same
