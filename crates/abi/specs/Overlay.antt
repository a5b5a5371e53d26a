-- The words of an overlay entry behind its page, and how many it has (01, "Overlays and locks").
use Rattle.std.specs.Prelude.{ℕ}

-- the flags that the page had
abbrev pub previous : ℕ
previous = 1

-- the flags of the overlay
abbrev pub own : ℕ
own = 2

abbrev pub count : ℕ
count = 3

abbrev pub source : ℕ
source = 4

abbrev pub words : ℕ
words = 5
