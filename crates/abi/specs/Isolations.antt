-- The isolation types of 01's domain: the numbers of the hypervisor's partition isolation types, of which 0 is none and 1 VBS.
use Rattle.std.specs.Prelude.{ℕ}

abbrev pub snp : ℕ
snp = 2

abbrev pub tdx : ℕ
tdx = 3

abbrev pub cca : ℕ
cca = 4
