use Rattle.permissions.proofs.DefaultVtlPermissions.with.Goals as goal

pub returns-in-Vtl0 : goal.returns-in-Vtl0
returns-in-Vtl0 c = rw c.in-Vtl0.is

pub returns-in-Vtl1 : goal.returns-in-Vtl1
returns-in-Vtl1 c = rw c.in-Vtl1.is
