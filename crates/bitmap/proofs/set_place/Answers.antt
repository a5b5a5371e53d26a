use Rattle.bitmap.proofs.Map.{place_past, place_stored}
use Rattle.bitmap.proofs.set_place.Goals as goal

pub returns-then-i-words : goal.returns-then-i-words
returns-then-i-words g c =
    let a = c.args in
    place_stored g.W.Word.number g.W.Word.BITS a.place _ g.met.W.Word.some c.BITS.ensures a.state a.words.now _ _ c.if-i-words.true c.index-words-i.is c.with.ensures

pub returns-else-i-words : goal.returns-else-i-words
returns-else-i-words g c =
    let a = c.args in
    place_past g.W.Word.number g.W.Word.BITS a.place _ g.met.W.Word.some c.BITS.ensures a.state a.words.now c.if-i-words.false
