use mathlib.Core.Path.{ap, ◌∙◌}
use native.Mathlib.Omega.{arith}
use Prim.Native.Nat.{ℕ, ◌+◌}
use mathlib.Core.List.{map}
use lib.ListN.{set, replicate, length-set, length-replicate}
use Rattle.sheet.specs.Layout.{sheet_of}
use Rattle.sheet.proofs.Units.{ids-count}
use Rattle.yearbook.specs.LentBook.{book_length, zero_book, fresh_book}
use Rattle.yearbook.proofs.Stores.{part-written}
use Rattle.yearbook.proofs.opening.start.Goals as goal

pub returns : goal.returns
unfolding fresh_book zero_book
returns c =
    let cleared = c.fill.ensures.after (λ y e. e) ∙ ap (λ (n : ℕ). replicate n 0) c.requires in
    let s = sheet_of c.args.sheet.bytes.now in
    let few = c.unit_count-n.ensures in
    rw (cleared, c.write_ids.ensures, few.0)
    (part-written (map (λ u. u.id) s.units) (set (replicate book_length 0) 0 s.unit_count) 37 (37 + s.unit_count) (omega (arith, ids-count c.args.sheet.bytes.now)) (simp (length-set, length-replicate) (omega arith)))
