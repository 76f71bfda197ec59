use Rattle.std.proofs.Common.{◌≡◌, ℕ, ◌+◌, List, [], ◌∷◌, ◌++◌, length, refl, sym, ◌∙◌, ap, take, replicate, rules}
use Rattle.gltf_buffers.specs.Container.{number, chunk}
use Rattle.gltf_buffers.specs.Writing.{padding_of, padded}
use Rattle.gltf_buffers.proofs.Joined.{joined, take_fill, padding_short, length_padded}
use Rattle.gltf_buffers.proofs.write.write_chunk.Goals as goal

appended : (kind fill : ℕ) (content old a b c d fills : List ℕ) (n p : ℕ) → p ≡ padding_of (length content) → n ≡ length content + p → a ≡ old ++ number n → b ≡ a ++ number kind → c ≡ b ++ content → d ≡ c ++ fills → fills ≡ take p (fill ∷ fill ∷ fill ∷ []) → d ≡ old ++ chunk kind (padded fill content)
appended kind fill content old a b c d fills n p hp hn e1 e2 e3 e4 hf =
    let same : fills ≡ replicate (padding_of (length content)) fill = hf ∙ rw hp (take_fill fill (padding_of (length content)) (padding_short (length content))) in
    let len : n ≡ length (padded fill content) = hn ∙ ap (λ x. length content + x) hp ∙ sym (length_padded fill content) in
    joined old (number n) (number kind) content fills a b c d e1 e2 e3 e4 ∙ ap (λ x. old ++ ((number x ++ number kind) ++ (content ++ fills))) len ∙ ap (λ x. old ++ ((number (length (padded fill content)) ++ number kind) ++ (content ++ x))) same

pub returns : goal.returns
returns c = appended c.args.kind c.args.fill c.args.content.now c.args.bytes.now.items c.extend_from_slice.new.self.items c.extend_from_slice-2.new.self.items c.extend_from_slice-3.new.self.items c.extend_from_slice-4.new.self.items _ _ c.padding-padding.result c.padding-padding.ensures refl (search rules) (search rules) c.in_ok-extend_from_slice-3.ensures.items c.in_ok-extend_from_slice-4.ensures.items refl
