use Rattle.operator_code.proofs.constant.+digits.Given as goal

abbrev pub decreases-digits : goal.decreases-digits
decreases-digits l = l.bits
