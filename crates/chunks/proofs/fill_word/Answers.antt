use borrow.Author.Rules.{rules}
use native.Mathlib.Omega.{arith}
use mathlib.Core.Bool.{true}
use Rattle.abi.specs.Lengths.{word_bits}
use Rattle.chunks.proofs.Laws as laws
use Rattle.bitmap.proofs.Map.{full_stored}
use Rattle.chunks.proofs.fill_word.Goals as goal

pub returns-then-k-map : goal.returns-then-k-map
returns-then-k-map c =
    full_stored word_bits true c.args.map.now c.args.word (omega arith) (search rules)

pub returns-else-k-map : goal.returns-else-k-map
returns-else-k-map c = laws.word_past c.args.map.now c.args.word (omega arith)
