-- `with_bytes` writes as many of the bytes as there is room for.
use Prim.Native.Nat.{◌+◌, ◌-◌}
use native.Mathlib.Omega.{arith}
use mathlib.Core.Path.{◌≡◌, sym}
use lib.ListN.{length}
use lib.Seq.{drop-drop}
use borrow.Author.Rules.{rules}
use Rattle.words.specs.Line.{held}
use Rattle.words.proofs.Held.{bytes_at_once}
use Rattle.words.proofs.line.Line.with_bytes.Goals as goal

pub returns : goal.returns
returns c =
    let at = c.min-at.result in
    let n = c.min-fits.result in
    let line = c.args.self in
    let size : length line.bytes ≡ held = search rules in
    let written : at + n - at ≡ n = omega arith in
    rw (written, drop-drop, c.copy_from_slice.ensures.after)
    (sym (bytes_at_once line.bytes c.args.bytes.now line.len at n size c.min-at.ensures c.min-fits.ensures))
