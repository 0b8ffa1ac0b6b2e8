-- The lines of the deliveries, and the closing line after them; a fresh frame follows the plain one with whatever store.
use Rattle.std.proofs.Common.{[], refl, subst}
use Rattle.std.proofs.lemmas.Result.{IfOk-weaker}
use Rattle.code.specs.declared.description.Code.{Code}
use Rattle.frame.specs.Histories.{Counted, Whole, begun}
use Rattle.frame_report.proofs.Closings.{shows}
use Rattle.frame_report.proofs.decoding.write_frame.Goals as goal

pub write_deliveries-requires : goal.write_deliveries-requires
write_deliveries-requires c =
    record {
      fresh = record {
        first = c.new-frame.result;
        noise = _;
        calls = [];
        whole = subst (λ (k : Code). Whole k c.new-frame.result) c.requires c.new-frame.ensures.whole;
        counts = subst (λ (k : Code). Counted k c.new-frame.result) c.requires c.new-frame.ensures.counted;
        history = begun;
        holds = refl;
      };
    }

pub returns : goal.returns
returns c = IfOk-weaker c.write_closing.result _ _ (λ x closing. shows _ _ _ _ _ _ c.in_ok-write_deliveries.ensures closing) c.write_closing.ensures
