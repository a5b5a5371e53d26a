use Rattle.permissions.proofs.DefaultVtlPermissions.new.Goals as goal

pub returns : goal.returns
returns c = cc
