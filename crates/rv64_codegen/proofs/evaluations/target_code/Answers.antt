use Rattle.rv64_codegen.proofs.evaluations.target_code.Goals as goal

pub returns-in-Local : goal.returns-in-Local
returns-in-Local c = rw c.in-Local.is c.local_code.ensures

pub returns-in-Variable : goal.returns-in-Variable
returns-in-Variable c = rw c.in-Variable.is c.variable_code.ensures

pub returns-in-Element : goal.returns-in-Element
returns-in-Element c = rw c.in-Element.is c.element_code.ensures
