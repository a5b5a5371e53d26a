-- The places of a line's numbers, and of what a call gave (README.md, "The file").
use Rattle.std.specs.Prelude.{ℕ}

abbrev pub kind : ℕ
kind = 0

abbrev pub a : ℕ
a = 1

abbrev pub b : ℕ
b = 2

abbrev pub c : ℕ
c = 3

abbrev pub d : ℕ
d = 4

abbrev pub e : ℕ
e = 5

-- of the operation that fails, its code and the pages processed
abbrev pub place : ℕ
place = 6

abbrev pub failed_code : ℕ
failed_code = 7

abbrev pub processed : ℕ
processed = 8

-- what was recorded
abbrev pub result : ℕ
result = 9

abbrev pub code : ℕ
code = 10

abbrev pub index : ℕ
index = 11

abbrev pub count : ℕ
count = 12

abbrev pub asked : ℕ
asked = 13

abbrev pub left : ℕ
left = 14

abbrev pub runs : ℕ
runs = 15

-- how many there are
abbrev pub all : ℕ
all = 16
