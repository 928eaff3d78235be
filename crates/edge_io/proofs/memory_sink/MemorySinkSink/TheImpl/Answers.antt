use Rattle.std.proofs.Common.{Some, ap, rules, arith}
use Rattle.std.proofs.lemmas.Grind.{common_steps}
use Rattle.std.proofs.lemmas.Result.{on_err_weaker}
use Rattle.edge_io.proofs.AppendsLaws.{AppendsPrefix-unchanged}
use Rattle.edge_io.proofs.memory_sink.MemorySinkSink.TheImpl.Goals as goal

pub put-tells : goal.put-tells
put-tells c = record {
  whole = search rules;
  part = on_err_weaker c.result (λ refused. AppendsPrefix-unchanged _ _ _ (ap (λ sink. Some sink.bytes) refused)) c.ensures.refused;
  failed = grind (arith, common_steps);
  faults_stay = c.ensures.faults_stay;
}
