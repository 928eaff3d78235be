use Rattle.std.proofs.Common.{◌+◌, ◌*◌}
use Rattle.formula_text.proofs.formula_parser.+parser.Given as goal

abbrev pub decreases-parse_formula : goal.decreases-parse_formula
decreases-parse_formula l = 2 * l.depth

abbrev pub decreases-parse_chain : goal.decreases-parse_chain
decreases-parse_chain l = 2 * l.depth

-- an operand takes no fuel of its own
abbrev pub decreases-parse_operand : goal.decreases-parse_operand
decreases-parse_operand l = 2 * l.depth + 1

abbrev pub decreases-parse_more : goal.decreases-parse_more
decreases-parse_more l = 2 * l.depth

abbrev pub decreases-parse_unary : goal.decreases-parse_unary
decreases-parse_unary l = 2 * l.depth

abbrev pub decreases-parse_group : goal.decreases-parse_group
decreases-parse_group l = 2 * l.depth

abbrev pub decreases-parse_wait : goal.decreases-parse_wait
decreases-parse_wait l = 2 * l.depth
