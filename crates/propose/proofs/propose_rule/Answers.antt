-- `propose::propose_rule` meets its contract.
use mathlib.Core.Path.{◌≡◌, refl}
use native.Mathlib.Omega.{arith}
use lib.ListN.{length}
use Rattle.std.proofs.Common.{rules}
use Rattle.rows.specs.Limits.{unknowns}
use Rattle.rules.specs.Read.{forms_read}
use Rattle.rules.proofs.HeldLaws.{form_count}
use Rattle.propose.proofs.Laws.{fixed_of, counted_of}
use Rattle.propose.proofs.propose_rule.Goals as goal

pub form-requires : goal.form-requires
form-requires c = (fixed_of c.args.bytes.now c.in-Fm.is c.requires refl, search rules)

pub premise-requires : goal.premise-requires
premise-requires c = (counted_of c.args.bytes.now c.in-Pm.is c.requires refl, search rules)

pub u16_at-requires : goal.u16_at-requires
u16_at-requires c = let long : length c.args.bytes.now ≡ 8 = fixed_of c.args.bytes.now c.in-Rs.is c.requires refl in omega arith

pub u16_at-requires-in-Rs : goal.u16_at-requires-in-Rs
u16_at-requires-in-Rs c = let long : length c.args.bytes.now ≡ 8 = fixed_of c.args.bytes.now c.in-Rs.is c.requires refl in omega arith

pub u16_at-requires-in-Rs-2 : goal.u16_at-requires-in-Rs-2
u16_at-requires-in-Rs-2 c = let long : length c.args.bytes.now ≡ 8 = fixed_of c.args.bytes.now c.in-Rs.is c.requires refl in omega arith

pub farkas-requires : goal.farkas-requires
farkas-requires c = counted_of c.args.bytes.now c.in-Fk.is c.requires refl

pub totality-requires : goal.totality-requires
totality-requires c = fixed_of c.args.bytes.now c.in-To.is c.requires refl

pub trichotomy-requires : goal.trichotomy-requires
trichotomy-requires c = fixed_of c.args.bytes.now c.in-Tr.is c.requires refl

pub equation-requires : goal.equation-requires
equation-requires c = fixed_of c.args.bytes.now c.in-Eq.is c.requires refl

pub tightening-requires : goal.tightening-requires
tightening-requires c = fixed_of c.args.bytes.now c.in-Ti.is c.requires refl

pub weakening-requires : goal.weakening-requires
weakening-requires c = fixed_of c.args.bytes.now c.in-Wk.is c.requires refl

pub clash-requires : goal.clash-requires
clash-requires c = counted_of c.args.bytes.now c.in-Cl.is c.requires refl

pub remainder-requires : goal.remainder-requires
remainder-requires c = counted_of c.args.bytes.now c.in-Ar.is c.requires refl

pub loosening-requires : goal.loosening-requires
loosening-requires c = fixed_of c.args.bytes.now c.in-Lf.is c.requires refl

pub scaling_up-requires : goal.scaling_up-requires
scaling_up-requires c = fixed_of c.args.bytes.now c.in-Su.is c.requires refl

pub scaling_down-requires : goal.scaling_down-requires
scaling_down-requires c = fixed_of c.args.bytes.now c.in-Sd.is c.requires refl

pub returns-in-Fm : goal.returns-in-Fm
returns-in-Fm c = rw c.in-Fm.is (c.form.ensures _ _ _ _)

pub returns-in-Pm : goal.returns-in-Pm
returns-in-Pm c = rw c.in-Pm.is (c.premise.ensures _ _ (forms_read c.args.forms) _ (form_count c.args.forms.held))

pub returns-in-Rs : goal.returns-in-Rs
returns-in-Rs c = rw c.in-Rs.is (rw (c.u16_at.ensures, c.u16_at-in-Rs.ensures, c.u16_at-in-Rs-2.ensures) at (c.resolve.ensures.0 unknowns (forms_read c.args.forms) (form_count c.args.forms.held)))

pub returns-in-Fk : goal.returns-in-Fk
returns-in-Fk c = rw c.in-Fk.is (c.farkas.ensures _ _ _)

pub returns-in-To : goal.returns-in-To
returns-in-To c = rw c.in-To.is (c.totality.ensures.0 _)

pub returns-in-Tr : goal.returns-in-Tr
returns-in-Tr c = rw c.in-Tr.is (c.trichotomy.ensures.0 _)

pub returns-in-Eq : goal.returns-in-Eq
returns-in-Eq c = rw c.in-Eq.is (c.equation.ensures.0 _)

pub returns-in-Ti : goal.returns-in-Ti
returns-in-Ti c = rw c.in-Ti.is (c.tightening.ensures.0 _)

pub returns-in-Wk : goal.returns-in-Wk
returns-in-Wk c = rw c.in-Wk.is (c.weakening.ensures.0 _)

pub returns-in-Cl : goal.returns-in-Cl
returns-in-Cl c = rw c.in-Cl.is (c.clash.ensures _ _ _)

pub returns-in-Ar : goal.returns-in-Ar
returns-in-Ar c = rw c.in-Ar.is (c.remainder.ensures.0 _ _ _)

pub returns-in-Lf : goal.returns-in-Lf
returns-in-Lf c = rw c.in-Lf.is (c.loosening.ensures.0 _)

pub returns-in-Su : goal.returns-in-Su
returns-in-Su c = rw c.in-Su.is (c.scaling_up.ensures.0 _)

pub returns-in-Sd : goal.returns-in-Sd
returns-in-Sd c = rw c.in-Sd.is (c.scaling_down.ensures.0 _)
