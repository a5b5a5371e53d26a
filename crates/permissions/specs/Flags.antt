-- The numbers that cross for VTLs, isolation types, flags and a yes or no (01, "Defaults", refusals 3 and 8). 01 gives those of VTLs and flags;
-- the others are the port's choice.
use Rattle.std.specs.Prelude.{Bool, true, false, cond, ◌&&◌, ℕ, ◌+◌, ◌*◌, ◌/◌, ◌%◌, eqb, leb, ltb}
use Rattle.abi.specs.Flags.{flags_end}
use Rattle.abi.specs.Isolations as isolation
use Rattle.laws.specs.Bools.{digit}
use Rattle.permissions.specs.declared.GuestVtl.{GuestVtl}
use Rattle.permissions.specs.declared.GuestVtl.TheVariants.{Vtl0, Vtl1}
use Rattle.permissions.specs.declared.IsolationType.{IsolationType}
use Rattle.permissions.specs.declared.IsolationType.TheVariants.{Snp, Tdx, Cca}
use Rattle.permissions.specs.declared.HvMapGpaFlags.{HvMapGpaFlags}

-- VTL 0 and 1
abbrev pub fit_vtl : ℕ → Bool
fit_vtl n = ltb n 2

abbrev pub vtl_of : ℕ → GuestVtl
vtl_of n = cond (eqb n 0) Vtl0 Vtl1

abbrev pub vtl_number : GuestVtl → ℕ
vtl_number Vtl0 = 0
vtl_number Vtl1 = 1

abbrev pub is_vtl0 : GuestVtl → Bool
is_vtl0 Vtl0 = true
is_vtl0 Vtl1 = false

-- SNP, TDX and CCA, whose numbers are neighbours
abbrev pub fit_isolation : ℕ → Bool
fit_isolation n = leb isolation.snp n && leb n isolation.cca

abbrev pub isolation_of : ℕ → IsolationType
isolation_of n = cond (eqb n isolation.snp) Snp (cond (eqb n isolation.tdx) Tdx Cca)

-- readable 1, writable 2, kernel execute 4, user execute 8
abbrev pub fit_flags : ℕ → Bool
fit_flags n = ltb n flags_end

abbrev pub flags_of : ℕ → HvMapGpaFlags
flags_of n =
    record {
      readable = eqb (n % 2) 1;
      writable = eqb (n / 2 % 2) 1;
      kernel_executable = eqb (n / 4 % 2) 1;
      user_executable = eqb (n / 8 % 2) 1;
    }

abbrev pub bits_of : HvMapGpaFlags → ℕ
bits_of f = digit f.readable + 2 * digit f.writable + 4 * digit f.kernel_executable + 8 * digit f.user_executable

abbrev pub no_flags : HvMapGpaFlags
no_flags = record { readable = false; writable = false; kernel_executable = false; user_executable = false }

abbrev pub all_flags : HvMapGpaFlags
all_flags = record { readable = true; writable = true; kernel_executable = true; user_executable = true }

-- no 0, yes 1
abbrev pub fit_bool : ℕ → Bool
fit_bool n = ltb n 2

abbrev pub bool_of : ℕ → Bool
bool_of n = eqb n 1
