-- `read_listing::listing::key_at` meets its contract: a key's length decides the answer and what is written.
use Rattle.std.proofs.Common.{rules}
use mathlib.Core.Path.{sym, ◌∙◌}
use Rattle.read_listing.proofs.ListingLaws.{told_past, told-refused, told_long, told_key}
use Rattle.read_listing.proofs.listing.key_at.Goals as goal

pub returns-then-table-at : goal.returns-then-table-at
returns-then-table-at c =
    let whole = told_past c.args.file.now c.args.table c.args.at c.args.out.now c.if-table-at.true in
    record { said = whole.0; wrote = whole.1 }

pub returns-in_err-size : goal.returns-in_err-size
returns-in_err-size c =
    let whole = told-refused c.args.file.now c.args.table c.args.at c.args.out.now c.if-table-at.false (sym c.key_size.ensures ∙ c.in_err-size.was) in
    record { said = simp (sym whole.0) (search rules); wrote = whole.1 }

pub returns-then-out-size : goal.returns-then-out-size
returns-then-out-size c =
    let whole = told_long c.args.file.now c.args.table c.args.at c.args.out.now c.if-table-at.false (sym c.key_size.ensures ∙ c.in_ok-size.was) c.if-out-size.true in
    record { said = whole.0; wrote = whole.1 }

pub write_key-requires : goal.write_key-requires
write_key-requires c =
    record {
      in_file = (c.requires, c.if-table-at.false);
      index_value = (sym c.key_size.ensures ∙ c.in_ok-size.was, c.if-out-size.false);
    }

pub returns : goal.returns
returns c =
    let whole = told_key c.args.file.now c.args.table c.args.at c.args.out.now c.if-table-at.false (sym c.key_size.ensures ∙ c.in_ok-size.was) c.if-out-size.false c.write_key.ensures in
    record { said = whole.0; wrote = whole.1 }
