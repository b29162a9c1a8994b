-- A log between two sections, from which another life may begin.
use Rattle.std.proofs.Common.{◌≡◌, ℕ, [], ◌∷◌, sym, ◌∙◌, subst, refl}
use Rattle.log_schemes.specs.declared.log.Log.{Log}
use Rattle.log_states.specs.Logs.{Record, nothing_recorded, IsDurable, IsRecorded, point_in}
use Rattle.log_states.specs.Stages.{LogConfig, LogIs, Stage, Writing, Written, Pointed, PointQueued, Over}
use Rattle.log_schemes.proofs.Public.{contains_none}
use Rattle.log_states.proofs.KeptRecords.{nothing_is_record}

-- with no boundary under way the log has its record
over_has : (log : Log) (thread : ℕ) (old new : Record) (m : LogConfig) → m.rest ≡ [] → Stage log thread old new m → IsRecorded log thread new m.words
over_has log thread old new m none (Writing [] [] [] writing recorded) = absurd (let e = sym writing.rest ∙ none in cc)
over_has log thread old new m none (Writing [] [] (line ∷ framing) writing recorded) = absurd (let e = sym writing.rest ∙ none in cc)
over_has log thread old new m none (Writing [] (line ∷ lines) framing writing recorded) = absurd (let e = sym writing.rest ∙ none in cc)
over_has log thread old new m none (Writing (slot ∷ slots) lines framing writing recorded) = absurd (let e = sym writing.rest ∙ none in cc)
over_has log thread old new m none (Written rest recorded bank frame) = absurd (let e = sym rest ∙ none in cc)
over_has log thread old new m none (Pointed rest pointed) = absurd (let e = sym rest ∙ none in cc)
over_has log thread old new m none (PointQueued rest pointed reaches) = absurd (let e = sym rest ∙ none in cc)
over_has log thread old new m none (Over rest recorded) = recorded

-- a log whose record has no point, in words and with a queue as they are
pub nothing_is : (log : Log) (thread : ℕ) (old new : Record) (m : LogConfig) → m.rest ≡ [] → new.point ≡ 0 → LogIs log thread old new m →
    LogIs log thread nothing_recorded nothing_recorded m
nothing_is log thread old new m none point is = record {
  follows = record { old_is = nothing_is_record log; new_is = nothing_is_record log; apart = λ some also. absurd (some refl) };
  log = is.log;
  queue = is.queue;
  stage = Over none (record {
    point = subst (λ (p : ℕ). IsDurable (point_in log m.words thread) p) point (over_has log thread old new m none is.stage).point;
    bank = λ slot own. absurd (contains_none slot own);
    frame = λ word own. absurd (contains_none word own);
  });
}
