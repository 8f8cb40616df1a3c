-- From the mark that bytes bear to the fields that its rule reads.
use mathlib.Core.Path.{◌≡◌, subst, ◌∙◌}
use mathlib.Core.Bool.{true, false}
use mathlib.Core.List.{List}
use Prim.Native.Nat.{ℕ}
use native.Mathlib.Nat.{mul-zero, add-zero}
use lib.ListN.{length}
use Rattle.ledger.specs.Record.{of_rule, Layout, rule_layout}
use Rattle.records.specs.declared.marks.RuleMark.{RuleMark}
use Rattle.records.specs.Marks.{rule_mark_of, OfMark}
use Rattle.fields.specs.Fields.{Listed}
use Rattle.records.proofs.WholeLaws.{fixed_whole, counted_whole}

module _ (b : List ℕ) {m m' : RuleMark} (e : m ≡ m') (h : OfMark b (of_rule (rule_mark_of m))) where
  borne : OfMark b (of_rule (rule_mark_of m'))
  borne = subst (λ (x : RuleMark). OfMark b (of_rule (rule_mark_of x))) e h

  abbrev its : Layout
  its = rule_layout (rule_mark_of m')

  pub fixed_of : its.counted ≡ false → length b ≡ its.bytes
  fixed_of u = fixed_whole b (of_rule (rule_mark_of m')) borne.bearing borne.shaped u ∙ simp (mul-zero, add-zero)

  pub counted_of : its.counted ≡ true → Listed its.place its.each its.least its.most b
  counted_of u = counted_whole b (of_rule (rule_mark_of m')) borne.bearing borne.shaped u
