use Rattle.std.proofs.Common.{None, refl, arith}
use Rattle.std.proofs.lemmas.Result.{on_ok_weaker, on_err_weaker}
use Rattle.edge_io.proofs.AppendsLaws.{AppendsPrefix-unchanged}
use Rattle.edge_io.proofs.out_sink.OutSinkSink.TheImpl.Goals as goal

pub put-tells : goal.put-tells
put-tells g c = record {
  whole = on_ok_weaker c.result (λ _. refl) c.ensures.taken;
  part = on_err_weaker c.result (λ _. AppendsPrefix-unchanged None None c.args.bytes.now refl) c.ensures.failed;
  failed = on_err_weaker c.result (λ rose. omega (arith, rose)) c.ensures.failed;
  faults_stay = c.ensures.faults_stay;
}
