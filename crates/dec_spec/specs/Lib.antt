pub mod Decrypting
