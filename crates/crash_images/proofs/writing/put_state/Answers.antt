use Rattle.std.proofs.Common.{ap, sym, ◌++◌, ◌∙◌, map}
use Rattle.std.proofs.lemmas.List.{length-map}
use Rattle.std.proofs.lemmas.Result.{on_ok_weaker}
use Rattle.crash_images.specs.Contents.{written_as}
use Rattle.crash_images.specs.ImageEncoder.{count_text}
use Rattle.crash_images.specs.links.Views.{written_life}
use Rattle.crash_images.proofs.WrittenImages.{state_put}
use Rattle.crash_images.proofs.writing.put_state.Goals as goal

pub returns-clause-text : goal.returns-clause-text
returns-clause-text c =
    let version = written_as c.args.log in
    let schedules = c.args.schedules.now in
    let memory = c.put_memory.new.out.items in
    on_ok_weaker c.put_lives.result (λ put.
    state_put version c.args.out.now.items memory c.put_count.new.out.items c.put_lives.new.out.items c.args.variables.now c.args.logs.now
    (map written_life schedules) c.in_ok-put_memory.ensures
    (c.in_ok-put_count.ensures ∙ ap (λ n. memory ++ count_text version n) (sym (length-map schedules written_life))) put.text) c.put_lives.ensures

pub returns-clause-fits : goal.returns-clause-fits
returns-clause-fits c = on_ok_weaker c.put_lives.result (λ put. put.fits) c.put_lives.ensures
