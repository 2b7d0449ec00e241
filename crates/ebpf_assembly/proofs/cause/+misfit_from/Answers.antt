use Rattle.ebpf_assembly.proofs.Misfits.{none_wanted, none_given, one_misfits, one_fits}
use Rattle.ebpf_assembly.proofs.cause.+misfit_from.Goals as goal

pub returns-in_default : goal.returns-in_default
returns-in_default t c = none_wanted _ _ _ _ c.in_default.len_below

pub returns-in_default-operands : goal.returns-in_default-operands
returns-in_default-operands t c = none_given _ _ _ _ c.in_default-operands.len_below

pub returns-then-not-fits : goal.returns-then-not-fits
returns-then-not-fits t c = one_misfits _ _ _ _ _ _ c.fits.result _ c.in-len1-up.len_at_least c.in-len1-up-operands.len_at_least c.if-not-fits.true
    c.fits.ensures.1 c.misfit.ensures

pub returns : goal.returns
returns t c = one_fits _ _ _ _ _ _ _ c.in-len1-up.len_at_least c.in-len1-up-operands.len_at_least (c.fits.ensures.0 c.if-not-fits.false) c.misfit_from.ensures
