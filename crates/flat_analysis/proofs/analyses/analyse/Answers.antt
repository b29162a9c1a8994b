-- Each check begins with what the ones before it have found.
use Rattle.c_tree.specs.Flats.{flat_of}
use Rattle.flow_graph.specs.Liveness.{HasRoom}
use Rattle.flow_graph.specs.Nodes.{graph_of}
use Rattle.std.proofs.Common.{subst}
use Rattle.lock_discipline.proofs.Public.{well_formed_has_names}
use Rattle.flat_analysis.specs.CompilableForms.{IsFormRefusal}
use Rattle.flat_analysis.proofs.Refused.{by_locals, by_temporaries, same_error}
use Rattle.flat_analysis.proofs.analyses.analyse.Goals as goal

pub returns-in_err-colours-clause-refused : goal.returns-in_err-colours-clause-refused
returns-in_err-colours-clause-refused c =
    let flat = flat_of c.args.flat.now in
    let error = c.in_err-colours.field-0.0 in
    same_error (IsFormRefusal c.args.language flat) error c.from_residual-in_err-colours.result c.from_residual-in_err-colours.ensures.1
    (by_locals c.args.language flat c.in_ok-held.ensures.disciplined (graph_of c.in_ok-graph.graph) error c.in_ok-graph.ensures
    c.in_err-colours.ensures.refused)

pub returns-in_err-check_temporaries-clause-refused : goal.returns-in_err-check_temporaries-clause-refused
returns-in_err-check_temporaries-clause-refused c =
    let flat = flat_of c.args.flat.now in
    let error = c.in_err-check_temporaries.field-0.0 in
    let room = subst HasRoom c.in_ok-graph.ensures c.in_ok-colours.ensures.room in
    same_error (IsFormRefusal c.args.language flat) error c.from_residual-in_err-check_temporaries.result c.from_residual-in_err-check_temporaries.ensures.1
    (by_temporaries c.args.language flat c.in_ok-held.ensures.disciplined error room c.in_err-check_temporaries.ensures.refused)

pub returns-clause-analysed : goal.returns-clause-analysed
returns-clause-analysed c =
    record {
      accepted = record {
        formed = c.requires.formed;
        plain = c.requires.plain;
        named = well_formed_has_names (flat_of c.args.flat.now) c.requires.formed;
        disciplined = c.in_ok-held.ensures.disciplined;
        priced = c.requires.priced;
        room = subst HasRoom c.in_ok-graph.ensures c.in_ok-colours.ensures.room;
        shallow = c.in_ok-check_temporaries.ensures.shallow;
      };
      held = c.in_ok-held.ensures.sets;
      lowered = c.in_ok-graph.ensures;
      live = c.in_ok-live.ensures;
      registers = c.in_ok-colours.ensures.registers;
      apart = c.in_ok-colours.ensures.apart;
    }
