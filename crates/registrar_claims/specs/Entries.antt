-- The registrar's entries, by their own contracts as the check reads them off the source: none asks anything of its arguments, so each has its contract whatever it
-- is lent.
use contract.Lifetimes.{Lfts}
use borrow.Fn.Kinds.{Dens}
use Rattle.registrar.proofs.registrar_build.Reads as r_build
use Rattle.registrar.proofs.registrar_build.Kinds as k_build
use Rattle.registrar.proofs.registrar_register.Reads as r_register
use Rattle.registrar.proofs.registrar_register.Kinds as k_register
use Rattle.registrar.proofs.registrar_register_all_aligned.Reads as r_all
use Rattle.registrar.proofs.registrar_register_all_aligned.Kinds as k_all
use Rattle.registrar.proofs.registrar_answer_done.Reads as r_done
use Rattle.registrar.proofs.registrar_answer_done.Kinds as k_done
use Rattle.registrar.proofs.registrar_answer_failed.Reads as r_failed
use Rattle.registrar.proofs.registrar_answer_failed.Kinds as k_failed

pub record Unasked : Type 0 where
  pub build : (κs : Lfts 4) (a : Dens κs k_build.ps) → r_build.Asked κs a
  pub register : (κs : Lfts 3) (a : Dens κs k_register.ps) → r_register.Asked κs a
  pub register_all_lem : (κs : Lfts 3) (a : Dens κs k_all.ps) → r_all.Asked κs a
  pub done : (κs : Lfts 3) (a : Dens κs k_done.ps) → r_done.Asked κs a
  pub failed : (κs : Lfts 3) (a : Dens κs k_failed.ps) → r_failed.Asked κs a
